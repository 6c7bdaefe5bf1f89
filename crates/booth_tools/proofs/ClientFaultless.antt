-- Where the outside does not fail, a client ends with an answer or without one.
use Rattle.std.specs.Prelude.{Contains, codes, Option, Some, None, Result, Ok, Err, MatchBool, MatchOption}
use Rattle.std.proofs.Common.{◌≡◌, ◌++◌, ℕ, Bool, true, false, List, [], ◌∷◌, refl, sym, subst, inl, inr}
use Rattle.std.proofs.lemmas.List.Elements.{Contains-append_right}
use Rattle.booth_keys.specs.declared.ring.Ring.{Ring}
use Rattle.booth_base.specs.declared.address.Peer.{Peer}
use Rattle.booth_conf.specs.Config.{ConfigSays}
use Rattle.booth_conf.specs.Says.{Says}
use Rattle.booth_conf.proofs.OneAnswers.{one_answer}
use Rattle.booth_host.specs.declared.host.Failed.{Failed}
use Rattle.booth_host.specs.declared.host.ReadFault.TheVariants as reads
use Rattle.booth_host.specs.declared.entry.Entry.{Entry}
use Rattle.booth_host.specs.declared.entry.Entry.TheVariants.{Open, Now, ReadFile, Send, Out}
use Rattle.booth_talk.specs.declared.order.Asking.{Asking}
use Rattle.booth_talk.specs.declared.reply.Reply.{Reply}
use Rattle.booth_talk.specs.declared.wait.Waited.{Waited}
use Rattle.booth_talk.specs.declared.wait.Waited.TheVariants.{Came, Over}
use Rattle.booth_talk.specs.declared.list_wait.Listed.{Listed}
use Rattle.booth_talk.specs.declared.list_wait.Listed.TheVariants as lists
use Rattle.booth_talk.specs.Asking.{is_list, request_bytes}
use Rattle.booth_talk.specs.Listing.{IsListTalk}
use Rattle.booth_talk.specs.Report.{IsListReport, IsReportOf, is_silent, is_status}
use Rattle.booth_talk.specs.Talk.{AsksOn, IsAsking, IsTalk, Rests, redirected}
use Rattle.booth_cli.specs.declared.asking.ClientWords.{ClientWords}
use Rattle.booth_cli.specs.declared.command.Verb.{Verb}
use Rattle.booth_outcomes.specs.declared.outcome.Outcome.{Outcome}
use Rattle.booth_outcomes.specs.declared.outcome.Outcome.TheVariants as outs
use Rattle.booth_outcomes.specs.Configuration.{IsUnread}
use Rattle.booth_outcomes.specs.Keys.{FirstKeyless, IsFileKeyless, IsKeyless, NamesKeyFile, OldKeyless}
use Rattle.booth_tools.specs.Client.{EndsWith, Follows, IsClientLog, IsListTold, IsPlainEnd, IsPrinted, IsReported, IsSocketless, IsStopped, IsTalkTold, IsUnkeyedClient, ListEndsWith, cluster_calls, not_running_text}
use Rattle.booth_tools.specs.Client.{Unread, Unkeyed, Asked, Socketless, Conversing}
use Rattle.booth_tools.specs.Client.{is_good, refused_text}
use Rattle.booth_tools.specs.ClientRun.{IsTalked, IsUnhindered}
use Rattle.booth_outcomes.proofs.CallLemmas.{AreAmong, first_of, left_among, only, right_among}

module _ (verb : Verb) (conf : List ℕ) (entries : List Entry) (free : IsUnhindered conf entries) where
  pub unread : (outcome : Outcome) (said : List ℕ) (part : List Entry) → AreAmong part entries → IsUnread conf outcome said part → IsTalked verb outcome
  unread outs.OutOfMemory said part all u = tt
  unread outs.ConfUnread said part all u = absurd (free.read conf (only entries (ReadFile conf (Err reads.Failed)) part u.1 all))
  unread (outs.ConfBad fault) said part all u =
      let valid = free.valid u.0 (only entries (ReadFile conf (Ok u.0)) part u.3 all) in
      absurd ((one_answer u.0).not_both valid.0 fault valid.1 u.1)
  unread outcome said part all u = absurd u

  -- a key file that the configuration names was read, and had no key
  file_keyless : (text : List ℕ) (config : ConfigSays) (file : List ℕ) (outcome : Outcome) (said : List ℕ) (part : List Entry) → Says text config →
      Contains entries (ReadFile conf (Ok text)) → NamesKeyFile config file → AreAmong part entries → IsFileKeyless file outcome said part → IsTalked verb outcome
  file_keyless text config file outs.OutOfMemory said part says read named all k = tt
  file_keyless text config file outs.KeyUnread said part says read named all k = absurd (free.read file (only entries (ReadFile file (Err reads.Failed)) part k.1 all))
  file_keyless text config file (outs.KeyBad fault) said part says read named all k =
      let key = free.keyed text file k.0 config read says named (only entries (ReadFile file (Ok k.0)) part k.3 all) in
      let is = k.1 in
      let reads = key.reads in
      cc
  file_keyless text config file outcome said part says read named all k = absurd k

  -- one of the key files had no key
  pub keyless : (text : List ℕ) (config : ConfigSays) (outcome : Outcome) (said : List ℕ) (part : List Entry) → Says text config →
      Contains entries (ReadFile conf (Ok text)) → AreAmong part entries → IsKeyless config outcome said part → IsTalked verb outcome
  keyless text config outcome said part says read all (FirstKeyless k) =
      file_keyless text config k.file outcome said part says read (inl k.set) all k.here
  keyless text config outcome said part says read all (OldKeyless k) =
      file_keyless text config k.old outcome said k.rest says read (inr k.old_set)
      (right_among (ReadFile k.file (Ok k.text) ∷ []) k.rest entries part k.whole all) k.here

  unkeyed : (outcome : Outcome) (said : List ℕ) (part : List Entry) → AreAmong part entries → IsUnkeyedClient conf outcome said part → IsTalked verb outcome
  unkeyed outcome said part all u =
      let read : Entry = ReadFile conf (Ok u.text) in
      let first = left_among (read ∷ []) u.rest entries part u.whole all in
      keyless u.text u.config outcome said u.rest u.says (first read (first_of read [])) (right_among (read ∷ []) u.rest entries part u.whole all) u.here

  -- ---- a talk that was not sent

  unsent : (asking : Asking) (to : Peer) (start : ℕ) (failed : Failed) (bytes : List ℕ) (part : List Entry) → AreAmong part entries →
      IsAsking asking to start (Err failed) bytes part → ⊥
  unsent asking to start failed bytes part all is =
      free.sent to (request_bytes asking start) failed (only entries (Send to (request_bytes asking start) (Err failed)) part is all)

  unsent_on : (asking : Asking) (first : Waited) (failed : Failed) (first_bytes bytes : List ℕ) (part : List Entry) (on : Option (Peer × ℕ)) → AreAmong part entries →
      MatchOption on (Rests (Ok first) first_bytes (Err failed) bytes part) (λ on. IsAsking asking on.0 on.1 (Err failed) bytes part) → ⊥
  unsent_on asking first failed first_bytes bytes part None all is = let same = is.same in cc
  unsent_on asking first failed first_bytes bytes part (Some on) all is = unsent asking on.0 on.1 failed bytes part all is

  untalked : (asking : Asking) (to : Peer) (start : ℕ) (failed : Failed) (bytes : List ℕ) (part : List Entry) → AreAmong part entries →
      IsTalk asking to start (Err failed) bytes part → ⊥
  untalked asking to start failed bytes part all t =
      go t.first t.asked t.goes_on
    where
      go : (first : Result Waited Failed) → IsAsking asking to start first t.first_bytes t.early →
          AsksOn asking first t.first_bytes (Err failed) bytes t.late → ⊥
      go (Ok first) asked_first on =
          unsent_on asking first failed t.first_bytes bytes t.late (redirected asking first) (right_among t.early t.late entries part t.whole all) on
      go (Err other) asked_first on = unsent asking to start other t.first_bytes t.early (left_among t.early t.late entries part t.whole all) asked_first

  -- ---- how it ends

  printed : (Q : List ℕ → Type 0) (outcome : Outcome) (said : List ℕ) (part : List Entry) → AreAmong part entries →
      IsPrinted Q outcome said part → IsTalked verb outcome
  printed Q outs.Report said part all r = tt
  printed Q outs.OutOfMemory said part all r = tt
  printed Q outs.PrintFault said part all r = absurd (free.printed r.1 r.3 (only entries (Out r.1 (Err r.3)) part r.4 all))
  printed Q outcome said part all r = absurd r

  reported : (asking : Asking) (bytes : List ℕ) (outcome : Outcome) (said : List ℕ) (part : List Entry) (silent : Bool) → AreAmong part entries →
      MatchBool silent (IsPlainEnd outcome outs.Report said [] part) (IsPrinted (IsReportOf asking bytes) outcome said part) → IsTalked verb outcome
  reported asking bytes outcome said part true all r = subst (IsTalked verb) (sym r.is) tt
  reported asking bytes outcome said part false all r = printed (IsReportOf asking bytes) outcome said part all r

  ended : (asking : Asking) (reply : Reply) (bytes : List ℕ) (outcome : Outcome) (said : List ℕ) (part : List Entry) (good : Bool) → AreAmong part entries →
      MatchBool good (IsReported asking bytes outcome said part) (IsPlainEnd outcome (outs.Refused reply.result) said (refused_text reply.result) part) → IsTalked verb outcome
  ended asking reply bytes outcome said part true all e = reported asking bytes outcome said part (is_silent asking.order) all e
  ended asking reply bytes outcome said part false all e = subst (IsTalked verb) (sym e.is) tt

  stopped : (outcome : Outcome) (said : List ℕ) (part : List Entry) → AreAmong part entries → IsStopped outcome said part → IsTalked verb outcome
  stopped outs.NotRunning said part all s = tt
  stopped outs.PrintFault said part all s = absurd (free.printed not_running_text s.1 (only entries (Out not_running_text (Err s.1)) part s.2 all))
  stopped outcome said part all s = absurd s

  unanswered : (outcome : Outcome) (said : List ℕ) (part : List Entry) (status : Bool) → AreAmong part entries →
      MatchBool status (IsStopped outcome said part) (IsPlainEnd outcome outs.NoReply said (codes "no reply") part) → IsTalked verb outcome
  unanswered outcome said part true all u = stopped outcome said part all u
  unanswered outcome said part false all u = subst (IsTalked verb) (sym u.is) tt

  talk_told : (asking : Asking) (to : Peer) (start : ℕ) (outcome : Outcome) (said : List ℕ) (part : List Entry) → AreAmong part entries →
      IsTalkTold asking to start outcome said part → IsTalked verb outcome
  talk_told asking to start outcome said part all t = go t.last t.talk t.end
    where
      go : (last : Result Waited Failed) → IsTalk asking to start last t.bytes t.early → EndsWith asking last t.bytes outcome said t.late → IsTalked verb outcome
      go (Ok (Came reply reading)) talk end =
          ended asking reply t.bytes outcome said t.late (is_good reply) (right_among t.early t.late entries part t.whole all) end
      go (Ok Over) talk end =
          unanswered outcome said t.late (is_status asking.order) (right_among t.early t.late entries part t.whole all) end
      go (Err failed) talk end = absurd (untalked asking to start failed t.bytes t.early (left_among t.early t.late entries part t.whole all) talk)

  list_told : (asking : Asking) (to : Peer) (start : ℕ) (outcome : Outcome) (said : List ℕ) (part : List Entry) → AreAmong part entries →
      IsListTold asking to start outcome said part → IsTalked verb outcome
  list_told asking to start outcome said part all t = go t.last t.talk t.end
    where
      go : (last : Result Listed Failed) → IsListTalk asking to start last t.text t.early → ListEndsWith last t.text outcome said t.late → IsTalked verb outcome
      go (Ok lists.Whole) talk end = printed (IsListReport t.text) outcome said t.late (right_among t.early t.late entries part t.whole all) end
      go (Ok (lists.Refused result)) talk end = subst (IsTalked verb) (sym end.is) tt
      go (Ok lists.Over) talk end = subst (IsTalked verb) (sym end.is) tt
      go (Err failed) talk end =
          absurd (free.sent to (request_bytes asking start) failed
          (only entries (Send to (request_bytes asking start) (Err failed)) t.early talk (left_among t.early t.late entries part t.whole all)))

  told : (asking : Asking) (to : Peer) (start : ℕ) (outcome : Outcome) (said : List ℕ) (part : List Entry) (list : Bool) → AreAmong part entries →
      MatchBool list (IsListTold asking to start outcome said part) (IsTalkTold asking to start outcome said part) → IsTalked verb outcome
  told asking to start outcome said part true all t = list_told asking to start outcome said part all t
  told asking to start outcome said part false all t = talk_told asking to start outcome said part all t

  pub socketless : (outcome : Outcome) (said : List ℕ) (part : List Entry) → AreAmong part entries → IsSocketless outcome said part → IsTalked verb outcome
  socketless outs.OutOfMemory said part all s = tt
  socketless outs.OpenFault said part all s = absurd (free.opened None 0 [] [] s.1 (only entries (Open None 0 [] [] (Err s.1)) part s.2 all))
  socketless outcome said part all s = absurd s

  follows : (asked : ClientWords) (config : ConfigSays) (ring : Option Ring) (outcome : Outcome) (said : List ℕ) (part : List Entry) → AreAmong part entries →
      Follows asked config ring outcome said part → IsTalked verb outcome
  follows asked config ring outcome said part all (Socketless s) = socketless outcome said part all s
  follows asked config ring outcome said part all (Conversing c) =
      told _ c.to c.start outcome said c.rest (is_list asked.order)
      (right_among (Open None 0 [] [] (Ok tt) ∷ Now c.start ∷ []) c.rest entries part c.whole all) c.told

  pub logged : (asked : ClientWords) (outcome : Outcome) (said : List ℕ) (part : List Entry) → asked.conf ≡ conf → AreAmong part entries → IsClientLog asked outcome said part → IsTalked verb outcome
  logged asked outcome said part same all (Unread u) = unread outcome said part all (subst (λ c. IsUnread c outcome said part) same u)
  logged asked outcome said part same all (Unkeyed u) = unkeyed outcome said part all (subst (λ c. IsUnkeyedClient c outcome said part) same u)
  logged asked outcome said part same all (Asked a) =
      follows asked a.config a.ring outcome said a.rest (right_among (cluster_calls asked.conf a.cluster) a.rest entries part a.whole all) a.here
