-- Where the outside does not fail, a move ends with an answer or without one, or at a target that is no site.
use Rattle.std.specs.Prelude.{Contains, Option, Some, None, Result, Ok, Err, MatchOption}
use Rattle.std.proofs.Common.{◌≡◌, ◌∙◌, ◌++◌, ℕ, List, [], ◌∷◌, refl, sym, ap, subst, inl, inr}
use Rattle.booth_keys.specs.declared.ring.Ring.{Ring}
use Rattle.booth_conf.specs.Config.{ConfigSays}
use Rattle.booth_conf.specs.Says.{Says}
use Rattle.booth_host.specs.declared.host.Failed.{Failed}
use Rattle.booth_host.specs.declared.entry.Entry.{Entry}
use Rattle.booth_host.specs.declared.entry.Entry.TheVariants.{Now, ReadFile, Send, Out}
use Rattle.booth_talk.specs.declared.order.Asking.{Asking}
use Rattle.booth_talk.specs.declared.list_wait.Listed.{Listed}
use Rattle.booth_talk.specs.declared.list_wait.Listed.TheVariants as lists
use Rattle.booth_talk.specs.Asking.{request_bytes as asking_bytes}
use Rattle.booth_talk.specs.Listing.{IsListTalk}
use Rattle.booth_talk.specs.Waiting.{calls_of}
use Rattle.booth_move.specs.declared.carrying.Moving.{Moving as Move_}
use Rattle.booth_move.specs.declared.deeds.MoveEnd.{MoveEnd}
use Rattle.booth_move.specs.declared.deeds.MoveEnd.TheVariants as ends
use Rattle.booth_move.specs.Carrying.{IsCarried, calls_so_far, request_bytes, send_call}
use Rattle.booth_cli.specs.declared.asking.MoveWords.{MoveWords}
use Rattle.booth_cli.specs.declared.command.Verb.{Verb}
use Rattle.booth_cli.specs.declared.command.Verb.TheVariants as verbs
use Rattle.booth_cli.specs.declared.program.Program.{Program}
use Rattle.booth_cli.specs.declared.program.Program.TheVariants.{Booth}
use Rattle.booth_cli.specs.Commands.{verb_in}
use Rattle.booth_outcomes.specs.declared.outcome.Outcome.{Outcome}
use Rattle.booth_outcomes.specs.declared.outcome.Outcome.TheVariants as outs
use Rattle.booth_outcomes.specs.Keys.{key_calls}
use Rattle.booth_outcomes.specs.Texts.{not_site_text}
use Rattle.booth_outcomes.proofs.CallLemmas.{AreAmong, among, first_of, left_among, only, right_among}
use Rattle.booth_outcomes.proofs.UsageLemmas.{for_memory}
use Rattle.booth_tools.specs.Client.{IsPlainEnd}
use Rattle.booth_tools.specs.ClientRun.{FaultlessTalks, IsClientMade, IsTalked, IsUnhindered, Moved, Talked, Unasked}
use Rattle.booth_tools.specs.MoveLook.{IsSettled, IsShown, LookEndsWith, held_text, listing}
use Rattle.booth_tools.specs.MoveRun.{FollowsKey, FollowsSite, IsMoveLog, IsMoveTold, MoveEndsWith, begun_text, moved_text, opened, site_at}
use Rattle.booth_tools.specs.MoveRun.{Keyed, Keyless, LookedUp, Read, Socketless, Started, Unread}
use Rattle.booth_tools.proofs.ClientFaultless.{keyless, logged, socketless, unread}

module _ (conf : List ℕ) (entries : List Entry) (free : IsUnhindered conf entries) where
  -- ---- a move of which a request was not sent

  uncarried : (moving : Move_) (start : ℕ) (failed : Failed) (part : List Entry) → AreAmong part entries → IsCarried moving start (Err failed) part → ⊥
  uncarried moving start failed part all (inl u) =
      free.sent u.s.to (request_bytes moving u.s.what u.s.number start) failed
      (only entries (send_call moving start u.s (Err failed)) part u.whole all)
  uncarried moving start failed part all (inr u) =
      let call : Entry = send_call moving u.last.reading u.s (Err failed) in
      let late = right_among (calls_so_far moving start u.pairs) (calls_of u.last ++ call ∷ []) entries part u.whole all in
      let last = right_among (calls_of u.last) (call ∷ []) entries (calls_of u.last ++ call ∷ []) refl late in
      free.sent u.s.to (request_bytes moving u.s.what u.s.number u.last.reading) failed (last call (first_of call []))

  -- ---- how it ends

  shown : (text : List ℕ) (outcome : Outcome) (said : List ℕ) (part : List Entry) → AreAmong part entries → IsShown text outcome said part → IsTalked verbs.Move outcome
  shown text outs.Report said part all s = tt
  shown text outs.PrintFault said part all s = absurd (free.printed text s.1 (only entries (Out text (Err s.1)) part s.2 all))
  shown text outcome said part all s = absurd s

  told : (asked : MoveWords) (moving : Move_) (start : ℕ) (outcome : Outcome) (said : List ℕ) (part : List Entry) → AreAmong part entries →
      IsMoveTold asked moving start outcome said part → IsTalked verbs.Move outcome
  told asked moving start outcome said part all t = go t.end t.carried t.told
    where
      late : AreAmong t.late entries
      late = right_among t.early t.late entries part t.whole all

      go : (end : Result MoveEnd Failed) → IsCarried moving start end t.early → MoveEndsWith asked end outcome said t.late → IsTalked verbs.Move outcome
      go (Ok ends.Moved) carried end = shown (moved_text asked) outcome said t.late late end
      go (Ok ends.Asked) carried end = shown (begun_text asked) outcome said t.late late end
      go (Ok (ends.Refused result)) carried end = subst (IsTalked verbs.Move) (sym end.is) tt
      go (Ok (ends.Stranded result)) carried end = subst (IsTalked verbs.Move) (sym end.is) tt
      go (Ok ends.NoReply) carried end = subst (IsTalked verbs.Move) (sym end.is) tt
      go (Err failed) carried end = absurd (uncarried moving start failed t.early (left_among t.early t.late entries part t.whole all) carried)

  -- ---- the stages before it

  settled : (asked : MoveWords) (asking : Asking) (outcome : Outcome) (said : List ℕ) (part : List Entry) → AreAmong part entries →
      IsSettled asked asking outcome said part → IsTalked verbs.Move outcome
  settled asked asking outcome said part all s = go s.last s.talk s.end
    where
      early : AreAmong (Now s.start ∷ s.early) entries
      early = left_among (Now s.start ∷ s.early) s.late entries part s.whole all

      late : AreAmong s.late entries
      late = right_among (Now s.start ∷ s.early) s.late entries part s.whole all

      go : (last : Result Listed Failed) → IsListTalk asking s.to s.start last s.text s.early →
          LookEndsWith asked last s.text outcome said s.late → IsTalked verbs.Move outcome
      go (Ok lists.Whole) talk (inl held) = shown (held_text asked) outcome said s.late late held.1
      go (Ok lists.Whole) talk (inr plain) = subst (IsTalked verbs.Move) (sym plain.is) tt
      go (Ok (lists.Refused result)) talk end = subst (IsTalked verbs.Move) (sym end.is) tt
      go (Ok lists.Over) talk end = subst (IsTalked verbs.Move) (sym end.is) tt
      go (Err failed) talk end =
          let behind : AreAmong s.early entries = right_among (Now s.start ∷ []) s.early entries (Now s.start ∷ s.early) refl early in
          absurd (free.sent s.to (asking_bytes asking s.start) failed
          (only entries (Send s.to (asking_bytes asking s.start) (Err failed)) s.early talk behind))

  follows_key : (asked : MoveWords) (config : ConfigSays) (ring : Option Ring) (target : ℕ) (outcome : Outcome) (said : List ℕ) (part : List Entry) →
      AreAmong part entries → FollowsKey asked config ring target outcome said part → IsTalked verbs.Move outcome
  follows_key asked config ring target outcome said part all (Socketless s) = socketless verbs.Move conf entries free outcome said part all s
  follows_key asked config ring target outcome said part all (LookedUp u) =
      settled asked (listing config ring) outcome said u.rest (right_among (opened ∷ []) u.rest entries part u.whole all) u.here
  follows_key asked config ring target outcome said part all (Started s) =
      let m = s.here in
      let behind : AreAmong s.rest entries = right_among (opened ∷ s.look) s.rest entries part s.whole all in
      told asked _ m.start outcome said m.rest (right_among (Now m.start ∷ []) m.rest entries s.rest m.whole behind) m.told

  follows_site : (asked : MoveWords) (text : List ℕ) (config : ConfigSays) (target : ℕ) (outcome : Outcome) (said : List ℕ) (part : List Entry) →
      Says text config → Contains entries (ReadFile conf (Ok text)) → AreAmong part entries → FollowsSite asked config target outcome said part → IsTalked verbs.Move outcome
  follows_site asked text config target outcome said part says read all (Keyless k) =
      keyless verbs.Move conf entries free text config outcome said part says read all k
  follows_site asked text config target outcome said part says read all (Keyed k) =
      follows_key asked config k.ring target outcome said k.rest (right_among (key_calls config k.texts) k.rest entries part k.whole all) k.here

  follows : (asked : MoveWords) (text : List ℕ) (config : ConfigSays) (outcome : Outcome) (said : List ℕ) (part : List Entry) (place : Option ℕ) →
      Says text config → Contains entries (ReadFile conf (Ok text)) → AreAmong part entries →
      MatchOption place (IsPlainEnd outcome outs.NotSite said (not_site_text asked.target) part) (λ target. FollowsSite asked config target outcome said part) →
      IsTalked verbs.Move outcome
  follows asked text config outcome said part None says read all f = subst (IsTalked verbs.Move) (sym f.is) tt
  follows asked text config outcome said part (Some target) says read all f = follows_site asked text config target outcome said part says read all f

  moved : (asked : MoveWords) (outcome : Outcome) (said : List ℕ) (part : List Entry) → asked.conf ≡ conf → AreAmong part entries → IsMoveLog asked outcome said part →
      IsTalked verbs.Move outcome
  moved asked outcome said part same all (Unread u) =
      unread verbs.Move conf entries free outcome said part all (subst (λ c. Rattle.booth_outcomes.specs.Configuration.IsUnread c outcome said part) same u)
  moved asked outcome said part same all (Read r) =
      let read : Entry = ReadFile asked.conf (Ok r.text) in
      let first = left_among (read ∷ []) r.rest entries part r.whole all in
      let here = subst (λ c. Contains entries (ReadFile c (Ok r.text))) same (first read (first_of read [])) in
      follows asked r.text r.config outcome said r.rest (site_at asked.target r.config) r.says here
      (right_among (read ∷ []) r.rest entries part r.whole all) r.here

-- words that ask for a move have the command of that name
is_move : (program : Program) (words : List (List ℕ)) (verb : Verb) → program ≡ Booth → verb_in program words ≡ Some verb → verb_in Booth words ≡ Some verbs.Move →
    verb ≡ verbs.Move
is_move program words verb own named move =
    let here : verb_in Booth words ≡ Some verb = sym (ap (λ p. verb_in p words) own) ∙ named in
    cc

pub faultless_talks : FaultlessTalks
faultless_talks program words verb outcome entries valid run free free_move = go run.made
  where
    all : AreAmong run.body entries
    all = λ x here. among x run.body run.last entries here run.whole

    go : IsClientMade program words outcome run.said run.body → IsTalked verb outcome
    go (Unasked is) = subst (IsTalked verb) (sym (for_memory program words verb outcome run.said run.body valid is)) tt
    go (Talked asked asks is) = logged verb asked.conf entries (free asked asks) asked outcome run.said run.body refl all is
    go (Moved asked own asks is) =
        subst (λ v. IsTalked v outcome) (sym (is_move program words verb own valid.named asks.asks.named))
        (moved asked.conf entries (free_move asked asks) asked outcome run.said run.body refl all is)
