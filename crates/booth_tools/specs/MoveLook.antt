-- The look at the target before a move: its list shows whether it has the ticket already.
use Rattle.std.specs.Prelude.{◌≡◌, ◌++◌, ◌⊎◌, ℕ, List, [], ◌∷◌, Option, Some, None, Result, Ok, Err, codes}
use Rattle.booth_keys.specs.declared.ring.Ring.{Ring}
use Rattle.booth_base.specs.declared.address.Peer.{Peer}
use Rattle.booth_base.specs.Address.{printed}
use Rattle.booth_conf.specs.Config.{ConfigSays}
use Rattle.booth_host.specs.declared.host.Failed.{Failed}
use Rattle.booth_host.specs.declared.entry.Entry.{Entry}
use Rattle.booth_host.specs.declared.entry.Entry.TheVariants.{Now, Out}
use Rattle.booth_talk.specs.declared.order.Asking.{Asking}
use Rattle.booth_talk.specs.declared.order.Order.TheVariants as orders
use Rattle.booth_talk.specs.declared.list_wait.Listed.{Listed}
use Rattle.booth_talk.specs.declared.list_wait.Listed.TheVariants as listed
use Rattle.booth_talk.specs.declared.list_wait.Listed.TheVariants.{Whole, Refused}
use Rattle.booth_talk.specs.Listing.{IsListTalk}
use Rattle.booth_talk.specs.Owner.{ShowsOwner}
use Rattle.booth_cli.specs.declared.asking.MoveWords.{MoveWords}
use Rattle.booth_outcomes.specs.declared.outcome.Ended.{Ended}
use Rattle.booth_outcomes.specs.declared.outcome.Outcome.{Outcome}
use Rattle.booth_outcomes.specs.declared.outcome.Outcome.TheVariants as outs
use Rattle.booth_outcomes.specs.Texts.{out_of_memory_text, unprinted_text}
use Rattle.booth_tools.specs.Client.{IsPlainEnd, refused_text}

-- the request for a list
abbrev pub listing : ConfigSays → Option Ring → Asking
listing config ring = record { order = orders.List; config = config; ring = ring }

-- the address of the target site
abbrev pub target_peer : MoveWords → ConfigSays → Peer
target_peer asked config = record { address = asked.target; port = config.port }

-- the list names the target as the owner of the ticket
abbrev pub IsHeldIn : MoveWords → List ℕ → Type 0
IsHeldIn asked text = ShowsOwner asked.ticket asked.target text

abbrev pub IsNotHeldIn : MoveWords → List ℕ → Type 0
IsNotHeldIn asked text = IsHeldIn asked text → ⊥

-- the site has the ticket already
abbrev pub held_text : MoveWords → List ℕ
held_text asked =
    codes "ticket " ++ asked.ticket ++ codes " is held by " ++ printed asked.target
    ++ codes " already: nothing is changed\n"

-- the one print of this text
abbrev pub IsShown : List ℕ → Outcome → List ℕ → List Entry → Type 0
IsShown text outs.Report said entries = (said ≡ []) × (entries ≡ Out text (Ok tt) ∷ [])
IsShown text outs.PrintFault said entries = (said ≡ unprinted_text)
    × (failed : Failed) × (entries ≡ Out text (Err failed) ∷ [])
IsShown text outcome said entries = ⊥

-- How a move ends after the target's list: if the list names the target as the owner, with one print that says so, or
-- without memory to read it; or if the list is refused, does not arrive whole, or cannot be requested.
abbrev pub LookEndsWith : MoveWords → Result Listed Failed → List ℕ → Outcome → List ℕ → List Entry → Type 0
LookEndsWith asked (Ok Whole) text outcome said entries =
    (IsHeldIn asked text × IsShown (held_text asked) outcome said entries)
    ⊎ IsPlainEnd outcome outs.OutOfMemory said out_of_memory_text entries
LookEndsWith asked (Ok (Refused result)) text outcome said entries =
    IsPlainEnd outcome (outs.Refused result) said (refused_text result) entries
LookEndsWith asked (Ok listed.Over) text outcome said entries =
    IsPlainEnd outcome outs.NoReply said (codes "no reply") entries
LookEndsWith asked (Err failed) text outcome said entries =
    IsPlainEnd outcome outs.SendFault said (codes "cannot send") entries

-- the clock was read, the target's list was requested, and the move ended
pub record IsSettled (asked : MoveWords) (asking : Asking) (outcome : Outcome) (said : List ℕ) (entries : List Entry)
    : Type 0 where
  pub to : Peer
  pub named : to ≡ target_peer asked asking.config
  pub start : ℕ
  pub last : Result Listed Failed
  pub text : List ℕ
  pub early : List Entry
  pub late : List Entry
  pub whole : entries ≡ Now start ∷ early ++ late
  pub talk : IsListTalk asking to start last text early
  pub end : LookEndsWith asked last text outcome said late

-- the clock was read, and the target's list arrived whole and does not name the target as the owner
pub record IsElsewhere (asked : MoveWords) (asking : Asking) (entries : List Entry) : Type 0 where
  pub to : Peer
  pub named : to ≡ target_peer asked asking.config
  pub start : ℕ
  pub text : List ℕ
  pub early : List Entry
  pub whole : entries ≡ Now start ∷ early
  pub talk : IsListTalk asking to start (Ok Whole) text early
  pub free : IsNotHeldIn asked text

-- ---- in the code

-- how a move ends after a list, or that it continues
abbrev pub IsJudged : MoveWords → Listed → List ℕ → Option Ended → List Entry → Type 0
IsJudged asked came text (Some ended) entries = LookEndsWith asked (Ok came) text ended.outcome ended.said entries
IsJudged asked Whole text None entries = IsNotHeldIn asked text × (entries ≡ [])
IsJudged asked came text None entries = ⊥

-- how a move ends after the look, or that it continues
abbrev pub IsLook : MoveWords → Asking → Option Ended → List Entry → Type 0
IsLook asked asking (Some ended) entries = IsSettled asked asking ended.outcome ended.said entries
IsLook asked asking None entries = IsElsewhere asked asking entries
