-- The calls of a client, up to the call that decides its outcome, and the text that it then prints.
use Rattle.std.specs.Prelude.{◌≡◌, ◌++◌, ◌⊎◌, ◌||◌, ◌==◌, ℕ, Bool, true, false, List, [], ◌∷◌, Option, Some, None, option_map}
use Rattle.std.specs.Prelude.{Result, Ok, Err, MatchBool, codes, if◌then◌else◌}
use Rattle.std.specs.Int.{to_be_bytes, w32}
use Rattle.std.specs.List.{find}
use Rattle.booth_keys.specs.declared.ring.Ring.{Ring}
use Rattle.hex.specs.Hex.{encode_lower}
use Rattle.booth_base.specs.declared.address.Address.{Address}
use Rattle.booth_base.specs.declared.address.Peer.{Peer}
use Rattle.booth_conf.specs.Config.{ConfigSays, is_site}
use Rattle.booth_conf.specs.Says.{Says}
use Rattle.booth_wire.specs.declared.codes.results.TheConstants.{FAIL, IARG, NATR, PEND, XPRG, APRQ, TIDL, OVER, BUSY, REDR}
use Rattle.booth_host.specs.declared.host.Failed.{Failed}
use Rattle.booth_host.specs.declared.entry.Entry.{Entry}
use Rattle.booth_host.specs.declared.entry.Entry.TheVariants.{Open, Now, ReadFile, Out}
use Rattle.booth_talk.specs.declared.order.Asking.{Asking}
use Rattle.booth_talk.specs.declared.order.Order.{Order}
use Rattle.booth_talk.specs.declared.reply.Reply.{Reply}
use Rattle.booth_talk.specs.declared.wait.Waited.{Waited}
use Rattle.booth_talk.specs.declared.wait.Waited.TheVariants.{Came, Over}
use Rattle.booth_talk.specs.declared.list_wait.Listed.{Listed}
use Rattle.booth_talk.specs.declared.list_wait.Listed.TheVariants as listed
use Rattle.booth_talk.specs.declared.list_wait.Listed.TheVariants.{Whole, Refused}
use Rattle.booth_talk.specs.Asking.{is_list, peer_at}
use Rattle.booth_talk.specs.Listing.{IsListTalk}
use Rattle.booth_talk.specs.Parts.{AreNone}
use Rattle.booth_talk.specs.Waiting.{is_begun}
use Rattle.booth_talk.specs.Talk.{IsTalk}
use Rattle.booth_talk.specs.Report.{IsListReport, IsReportOf, is_silent, is_status}
use Rattle.booth_outcomes.specs.declared.outcome.Outcome.{Outcome}
use Rattle.booth_outcomes.specs.declared.outcome.Outcome.TheVariants as outs
use Rattle.booth_outcomes.specs.declared.outcome.Ended.{Ended}
use Rattle.booth_tools.specs.declared.client.Cluster.{Cluster}
use Rattle.booth_tools.specs.declared.memory.Memory.{Memory}
use Rattle.booth_tools.specs.declared.memory.Memory.TheVariants as memories
use Rattle.booth_cli.specs.declared.asking.ClientWords.{ClientWords}
use Rattle.booth_outcomes.specs.Texts.{unopened_text, unprinted_text, out_of_memory_text}
use Rattle.booth_outcomes.specs.Keys.{HasRing, IsKeyless, KeyTexts, key_calls}
use Rattle.booth_outcomes.specs.Configuration.{IsUnread}

-- ---- configuration and ring

-- configuration and ring, and the texts from which they were read
pub record IsCluster (config : ConfigSays) (ring : Option Ring) : Type 0 where
  pub text : List ℕ
  pub says : Says text config
  pub key_texts : KeyTexts
  pub holds : HasRing config key_texts ring

-- the calls up to the ring
abbrev pub cluster_calls : {config : ConfigSays} {ring : Option Ring} → List ℕ → IsCluster config ring → List Entry
cluster_calls {config} path cluster =
    ReadFile path (Ok cluster.text) ∷ key_calls config cluster.key_texts

-- a configuration was read, and a key could not be
pub record IsUnkeyedClient (path : List ℕ) (outcome : Outcome) (said : List ℕ) (entries : List Entry) : Type 0 where
  pub text : List ℕ
  pub config : ConfigSays
  pub says : Says text config
  pub rest : List Entry
  pub whole : entries ≡ ReadFile path (Ok text) ∷ rest
  pub here : IsKeyless config outcome said rest

-- ---- the receiver

-- the address in the arguments, or else the address of the first site, at the configured port
abbrev pub destination : Option Address → ConfigSays → Option Peer
destination (Some address) config = Some (record { address = address; port = config.port })
destination None config = option_map (peer_at config) (find is_site config.members)

-- ---- how a talk ends

-- the request was done, or it was begun
abbrev pub is_good : Reply → Bool
is_good reply = reply.result == 0 || is_begun reply

-- the text for a refusal
abbrev pub refused_text : ℕ → List ℕ
refused_text result =
    if result == FAIL then codes "failed" else
    if result == IARG then codes "invalid argument" else
    if result == NATR then codes "no such attribute" else
    if result == PEND then codes "granted, but the record is not kept yet" else
    if result == XPRG then codes "handler failed" else
    if result == APRQ then codes "prerequisite not met" else
    if result == TIDL then codes "ticket is not granted" else
    if result == OVER then codes "ticket is granted elsewhere" else
    if result == BUSY then codes "busy" else
    if result == REDR then codes "ticket is owned by another site" else
    codes "result " ++ encode_lower (to_be_bytes w32 result)

-- the one print of a report for which Q holds, if there is memory for it
abbrev pub IsPrinted : (List ℕ → Type 0) → Outcome → List ℕ → List Entry → Type 0
IsPrinted Q outs.Report said entries = (said ≡ [])
    × (report : List ℕ) × Q report × (entries ≡ Out report (Ok tt) ∷ [])
IsPrinted Q outs.PrintFault said entries = (said ≡ unprinted_text)
    × (report : List ℕ) × Q report
    × (failed : Failed) × (entries ≡ Out report (Err failed) ∷ [])
IsPrinted Q outs.OutOfMemory said entries = (said ≡ out_of_memory_text) × (entries ≡ [])
IsPrinted Q outcome said entries = ⊥

-- an end without a call, with this text
pub record IsPlainEnd (outcome wanted : Outcome) (said text : List ℕ) (entries : List Entry) : Type 0 where
  pub is : outcome ≡ wanted
  pub told : said ≡ text
  pub none : entries ≡ []

-- The report of a good reply: its print, or none if the order has no output.
abbrev pub IsReported : Asking → List ℕ → Outcome → List ℕ → List Entry → Type 0
IsReported asking bytes outcome said entries =
    MatchBool (is_silent asking.order) (IsPlainEnd outcome outs.Report said [] entries)
    (IsPrinted (IsReportOf asking bytes) outcome said entries)

-- a daemon that does not answer does not run
abbrev pub not_running_text : List ℕ
not_running_text = codes "booth daemon is not running\n"

-- the one print of that, if the client asks whether the daemon runs
abbrev pub IsStopped : Outcome → List ℕ → List Entry → Type 0
IsStopped outs.NotRunning said entries = (said ≡ []) × (entries ≡ Out not_running_text (Ok tt) ∷ [])
IsStopped outs.PrintFault said entries = (said ≡ unprinted_text)
    × (failed : Failed) × (entries ≡ Out not_running_text (Err failed) ∷ [])
IsStopped outcome said entries = ⊥

-- how a talk ends without a reply
abbrev pub IsUnanswered : Order → Outcome → List ℕ → List Entry → Type 0
IsUnanswered order outcome said entries =
    MatchBool (is_status order) (IsStopped outcome said entries)
    (IsPlainEnd outcome outs.NoReply said (codes "no reply") entries)

-- How a talk ends: with the report of a good reply, with the result of another, or without a reply.
abbrev pub EndsWith : Asking → Result Waited Failed → List ℕ → Outcome → List ℕ → List Entry → Type 0
EndsWith asking (Ok (Came reply reading)) bytes outcome said entries =
    MatchBool (is_good reply) (IsReported asking bytes outcome said entries)
    (IsPlainEnd outcome (outs.Refused reply.result) said (refused_text reply.result) entries)
EndsWith asking (Ok Over) bytes outcome said entries = IsUnanswered asking.order outcome said entries
EndsWith asking (Err failed) bytes outcome said entries =
    IsPlainEnd outcome outs.SendFault said (codes "cannot send") entries

-- How a request for a list ends: with the report of its text, with the result of a refusal, or without a whole list.
abbrev pub ListEndsWith : Result Listed Failed → List ℕ → Outcome → List ℕ → List Entry → Type 0
ListEndsWith (Ok Whole) text outcome said entries = IsPrinted (IsListReport text) outcome said entries
ListEndsWith (Ok (Refused result)) text outcome said entries =
    IsPlainEnd outcome (outs.Refused result) said (refused_text result) entries
ListEndsWith (Ok listed.Over) text outcome said entries =
    IsPlainEnd outcome outs.NoReply said (codes "no reply") entries
ListEndsWith (Err failed) text outcome said entries =
    IsPlainEnd outcome outs.SendFault said (codes "cannot send") entries

-- a request for a list, and its end
pub record IsListTold (asking : Asking) (to : Peer) (start : ℕ) (outcome : Outcome) (said : List ℕ)
    (entries : List Entry) : Type 0 where
  pub last : Result Listed Failed
  pub text : List ℕ
  pub early : List Entry
  pub late : List Entry
  pub whole : entries ≡ early ++ late
  pub talk : IsListTalk asking to start last text early
  pub end : ListEndsWith last text outcome said late

-- a talk, and its end
pub record IsTalkTold (asking : Asking) (to : Peer) (start : ℕ) (outcome : Outcome) (said : List ℕ)
    (entries : List Entry) : Type 0 where
  pub last : Result Waited Failed
  pub bytes : List ℕ
  pub early : List Entry
  pub late : List Entry
  pub whole : entries ≡ early ++ late
  pub talk : IsTalk asking to start last bytes early
  pub end : EndsWith asking last bytes outcome said late

-- the request and its result: for a list, or for any other order
abbrev pub IsTold : Asking → Peer → ℕ → Outcome → List ℕ → List Entry → Type 0
IsTold asking to start outcome said entries =
    MatchBool (is_list asking.order) (IsListTold asking to start outcome said entries)
    (IsTalkTold asking to start outcome said entries)

-- the socket failed, or the memory ran out before it
abbrev pub IsSocketless : Outcome → List ℕ → List Entry → Type 0
IsSocketless outs.OpenFault said entries = (said ≡ unopened_text)
    × (failed : Failed) × (entries ≡ Open None 0 [] [] (Err failed) ∷ [])
IsSocketless outs.OutOfMemory said entries = (said ≡ out_of_memory_text) × (entries ≡ [])
IsSocketless outcome said entries = ⊥

-- the socket was opened at any address and port, and the clock read; then the client sent its request
pub record IsConversing (asked : ClientWords) (config : ConfigSays) (ring : Option Ring) (outcome : Outcome)
    (said : List ℕ) (entries : List Entry) : Type 0 where
  pub to : Peer
  pub named : destination asked.site config ≡ Some to
  pub start : ℕ
  pub rest : List Entry
  pub whole : entries ≡ Open None 0 [] [] (Ok tt) ∷ Now start ∷ rest
  pub told : IsTold (record { order = asked.order; config = config; ring = ring }) to start outcome said rest

-- the rest of the run, after the reads
pub data Follows (asked : ClientWords) (config : ConfigSays) (ring : Option Ring) (outcome : Outcome)
    (said : List ℕ) (entries : List Entry) : Type 0 where
  Socketless : IsSocketless outcome said entries → Follows asked config ring outcome said entries
  Conversing : IsConversing asked config ring outcome said entries → Follows asked config ring outcome said entries

-- configuration and ring were read, and then these calls were made
pub record IsAsked (asked : ClientWords) (outcome : Outcome) (said : List ℕ) (entries : List Entry) : Type 0 where
  pub config : ConfigSays
  pub ring : Option Ring
  pub cluster : IsCluster config ring
  pub rest : List Entry
  pub whole : entries ≡ cluster_calls asked.conf cluster ++ rest
  pub here : Follows asked config ring outcome said rest

-- the first stage that failed, or the talk
pub data IsClientLog (asked : ClientWords) (outcome : Outcome) (said : List ℕ) (entries : List Entry) : Type 0 where
  Unread : IsUnread asked.conf outcome said entries → IsClientLog asked outcome said entries
  Unkeyed : IsUnkeyedClient asked.conf outcome said entries → IsClientLog asked outcome said entries
  Asked : IsAsked asked outcome said entries → IsClientLog asked outcome said entries

-- ---- in the code

-- the memory fits the kind of the order, and no part of a list has arrived
abbrev pub IsMemoryFor : Order → Memory → Type 0
IsMemoryFor order (memories.List room) = (is_list order ≡ true) × AreNone room.parts
IsMemoryFor order (memories.Talk room) = is_list order ≡ false

-- the reads of the key files that are set, and the configuration with its ring
abbrev pub IsKeyed : ConfigSays → Result Cluster Ended → List Entry → Type 0
IsKeyed config (Ok cluster) entries = (cluster.config ≡ config)
    × (texts : KeyTexts) × HasRing config texts cluster.ring × (entries ≡ key_calls config texts)
IsKeyed config (Err ended) entries = IsKeyless config ended.outcome ended.said entries

-- the reads and their results, or the end of the client if one of them fails
abbrev pub IsClusterRead : List ℕ → Result Cluster Ended → List Entry → Type 0
IsClusterRead path (Ok cluster) entries =
    (is : IsCluster cluster.config cluster.ring) × (entries ≡ cluster_calls path is)
IsClusterRead path (Err ended) entries =
    IsUnread path ended.outcome ended.said entries ⊎ IsUnkeyedClient path ended.outcome ended.said entries
