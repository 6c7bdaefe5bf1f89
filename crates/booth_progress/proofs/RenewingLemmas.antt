-- A renewal that members behind the leader hear, and whose answers are heard, gives a longer lease.
use Rattle.std.proofs.Common.{◌≡◌, ◌≢◌, ◌⊎◌, inl, inr, ℕ, ◌+◌, ◌<◌, ◌≤◌, Bool, true, false, ◌&&◌, List, [], ◌∷◌, length, arith, refl, sym, ap, ◌∙◌, subst, if◌then◌else◌}
use Rattle.std.specs.Prelude.{Some, ◌==◌}
use Rattle.std.proofs.lemmas.Bool.Decides.{nat_tests}
use Rattle.booth_base.specs.declared.address.MemberId.{MemberId}
use Rattle.booth_base.specs.declared.limits.TheConstants.{MEMBERS}
use Rattle.booth_base.specs.Times.{promise_of}
use Rattle.booth_wire.specs.declared.command.Cmd.{Cmd}
use Rattle.booth_wire.specs.declared.command.Cmd.TheVariants as cmds
use Rattle.booth_wire.specs.declared.message.Head.{Head}
use Rattle.booth_wire.specs.declared.message.Say.{Say}
use Rattle.booth_wire.specs.declared.message.Setup.{Setup}
use Rattle.booth_wire.specs.declared.message.TicketPart.{TicketPart}
use Rattle.booth_raft.specs.declared.view.Round.{Round}
use Rattle.booth_raft.specs.declared.view.RoundKind.{RoundKind}
use Rattle.booth_raft.specs.declared.view.RoundKind.TheVariants.{Election, Renewal}
use Rattle.booth_raft.specs.declared.view.View.{View}
use Rattle.booth_raft.specs.AskAndRenew.{renew}
use Rattle.booth_raft.specs.GainReleaseLost.{own_end}
use Rattle.booth_raft.specs.Members.{is_majority, is_same}
use Rattle.booth_raft.specs.Messages.{answer_cmd, answers_round, head_of, kind_of, part_of, round_cmd}
use Rattle.booth_raft.specs.OtherMessages.{hear}
use Rattle.booth_raft.specs.Outcome.{Outcome, quiet}
use Rattle.booth_raft.specs.RoundsAndAnswers.{MayAnswer, hear_round}
use Rattle.booth_raft.specs.StartAndLearn.{with_seen}
use Rattle.booth_raft.proofs.AnswerLemmas.{same-is_same}
use Rattle.booth_raft.proofs.FactsLemmas.{on_test, untrue}
use Rattle.booth_progress.specs.Behind.{AnswersSo, IsBehind}
use Rattle.booth_progress.specs.Extending.{AllAnswer, AllHave, AreBelow, Hearing, IsAnswerOf, IsAnsweredBy, after_hearing, after_hearings}
use Rattle.booth_progress.specs.Kept.{all_kept}
use Rattle.booth_progress.specs.Leading.{HasAnswered, IsOpened, OpensRound}
use Rattle.booth_progress.specs.Renewing.{AllTakePart, IsAmong, IsHeardBack, IsHearingOf, RenewalsSucceed, TakesPart, after_renewal, said_after}
use Rattle.booth_progress.proofs.BehindLemmas.{answers_leave_behind, behind_alike, members_stay_behind}
use Rattle.booth_progress.proofs.ExtendingLemmas.{answered_rounds_extend, some_and}
use Rattle.booth_progress.proofs.OpeningLemmas.{leaders_open_rounds}

-- ---- a round is heard

-- the message of a round is heard as one
module _ (setup : Setup) (view : View) (place : ℕ) (head : Head) (part : TicketPart) (now number : ℕ) where
  abbrev seen : View
  seen = with_seen view part.term

  heard_as : (b : Bool) → number == 0 ≡ b → head.options ≡ number → (cmd : Cmd) → cmd ≡ round_cmd (if b then Election else Renewal)
      → hear setup view place head part now cmd ≡ hear_round setup seen (if b then Election else Renewal) head part now
  heard_as true zero_is same cmd is =
      subst (λ (c : Cmd). hear setup view place head part now c ≡ hear_round setup seen Election head part now) (sym is)
      (on_test (λ (o : Outcome). o ≡ hear_round setup seen Election head part now) (head.options == 0) _ (quiet seen)
      (λ yes. refl) (λ no. absurd (untrue (sym no ∙ (ap (λ (n : ℕ). n == 0) same ∙ zero_is)))))
  heard_as false not_zero same cmd is =
      subst (λ (c : Cmd). hear setup view place head part now c ≡ hear_round setup seen Renewal head part now) (sym is)
      (on_test (λ (o : Outcome). o ≡ hear_round setup seen Renewal head part now) (head.options == 0) (quiet seen) _
      (λ yes. absurd (untrue (sym (ap (λ (n : ℕ). n == 0) same ∙ not_zero) ∙ yes))) (λ no. refl))

-- ---- a member takes part

module _ (leader : Setup) (led : View) (opened : ℕ) (round : Round) (hearings : List Hearing) (place : ℕ)
    (takes : TakesPart leader led opened round hearings place) where
  abbrev own : Setup
  own = takes.setup

  abbrev at : ℕ
  at = takes.hearing.now

  abbrev heard : Outcome
  heard = hear own takes.old takes.hearing.place takes.hearing.head takes.hearing.part at takes.hearing.head.cmd

  abbrev kind : RoundKind
  kind = kind_of round.number

  from_leader : takes.hearing.head.from ≡ leader.me
  from_leader = takes.head.from

  in_term : takes.hearing.part.term ≡ led.term
  in_term = ap (λ (p : TicketPart). p.term) takes.part

  seen_behind : IsBehind leader.me takes.since led.term takes.until at (with_seen takes.old takes.hearing.part.term)
  seen_behind =
      behind_alike leader.me takes.since led.term takes.until at takes.old (with_seen takes.old takes.hearing.part.term)
      (record { role = refl; round = refl; waiting = refl; abstain = refl; force = refl; promise = refl; term = refl; bound = refl })
      (members_stay_behind.passes takes.old leader.me takes.since takes.term led.term takes.until at at takes.no_later (omega arith) takes.behind)

  may : MayAnswer (with_seen takes.old takes.hearing.part.term) takes.hearing.head.from takes.hearing.part.term at
  may =
      subst (λ (s : MemberId). MayAnswer (with_seen takes.old takes.hearing.part.term) s takes.hearing.part.term at) (sym from_leader)
      (subst (λ (t : ℕ). MayAnswer (with_seen takes.old takes.hearing.part.term) leader.me t at) (sym in_term)
      (members_stay_behind.answers (with_seen takes.old takes.hearing.part.term) leader.me takes.since led.term takes.until at seen_behind))

  answers : AnswersSo own kind takes.hearing.head takes.hearing.part at (all_kept own at heard)
  answers =
      subst (λ (o : Outcome). AnswersSo own kind takes.hearing.head takes.hearing.part at (all_kept own at o))
      (sym (heard_as own takes.old takes.hearing.place takes.hearing.head takes.hearing.part at round.number (round.number == 0) refl
      takes.head.options takes.hearing.head.cmd takes.head.cmd))
      (answers_leave_behind own (with_seen takes.old takes.hearing.part.term) kind takes.hearing.head takes.hearing.part at
      takes.behind.rests (inl (takes.behind.follows, takes.behind.idle)) may)

  pub behind_again : IsBehind leader.me led.term led.term (at + promise_of own.times) at (after_hearing own takes.old takes.hearing)
  behind_again =
      subst (λ (s : MemberId). IsBehind s led.term led.term (at + promise_of own.times) at (after_hearing own takes.old takes.hearing)) from_leader
      (subst (λ (t : ℕ). IsBehind takes.hearing.head.from t t (at + promise_of own.times) at (after_hearing own takes.old takes.hearing)) in_term
      answers.behind)

  -- ---- its answer counts

  three : (a b c : Bool) → a ≡ true → b ≡ true → c ≡ true → a && b && c ≡ true
  three false b c p q r = absurd (untrue p)
  three true false c p q r = absurd (untrue q)
  three true true false p q r = absurd (untrue r)
  three true true true p q r = refl

  equal_so : (a b : ℕ) → a ≡ b → a == b ≡ true
  equal_so a b e = grind (arith, nat_tests)

  is_zero : (number : ℕ) → number == 0 ≡ true → number ≡ 0
  is_zero number e = grind (arith, nat_tests)

  not_zero : (number : ℕ) → number == 0 ≡ false → number ≢ 0
  not_zero number e z = untrue (sym e ∙ ap (λ (n : ℕ). n == 0) z)

  by_kind : (b : Bool) → round.number == 0 ≡ b → (hearing : Hearing) → hearing.head.options ≡ round.number
      → hearing.head.cmd ≡ answer_cmd (if b then Election else Renewal)
      → ((hearing.head.cmd ≡ cmds.VtFr) × (hearing.head.options ≡ 0)) ⊎ ((hearing.head.cmd ≡ cmds.Ack) × (hearing.head.options ≢ 0))
  by_kind true is hearing same cmd = inl (cmd, same ∙ is_zero round.number is)
  by_kind false is hearing same cmd = inr (cmd, λ z. not_zero round.number is (sym same ∙ z))

  counts : (request : ℕ) → round.term ≡ led.term → (hearing : Hearing)
      → IsHearingOf (head_of own (answer_cmd kind) request round.number 0 0) (part_of own leader.me led.term 0) place hearing
      → IsAnswerOf leader round place hearing
  counts request same_term hearing h = record {
    from = h.from;
    kind = by_kind (round.number == 0) refl hearing h.head_is.options h.head_is.cmd;
    to = three (is_same hearing.part.leader leader.me) (round.term == hearing.part.term) (round.number == hearing.head.options)
        (same-is_same hearing.part.leader leader.me (ap (λ (p : TicketPart). p.leader) h.part_is))
        (equal_so round.term hearing.part.term (same_term ∙ sym (ap (λ (p : TicketPart). p.term) h.part_is)))
        (equal_so round.number hearing.head.options (sym h.head_is.options));
  }

  among : (request : ℕ) → round.term ≡ led.term → (heard_all : List Hearing)
      → IsAmong (head_of own (answer_cmd kind) request round.number 0 0) (part_of own leader.me led.term 0) place heard_all
      → IsAnsweredBy leader round place heard_all
  among request same_term [] h = h
  among request same_term (hearing ∷ heard_all) (inl is) = inl (counts request same_term hearing is)
  among request same_term (hearing ∷ heard_all) (inr later) = inr (among request same_term heard_all later)

  pub answered : round.term ≡ led.term → IsAnsweredBy leader round place hearings
  answered same_term =
      among takes.hearing.head.request same_term hearings
      (subst (λ (say : Say). IsHeardBack say place hearings) said takes.back)
    where
      said : said_after own takes.old takes.hearing ≡ answers_round own kind leader.me round.number takes.hearing.head.request led.term
      said =
          answers.said
          ∙ ap (λ (s : MemberId). answers_round own kind s takes.hearing.head.options takes.hearing.head.request takes.hearing.part.term) from_leader
          ∙ ap (λ (n : ℕ). answers_round own kind leader.me n takes.hearing.head.request takes.hearing.part.term) takes.head.options
          ∙ ap (λ (t : ℕ). answers_round own kind leader.me round.number takes.hearing.head.request t) in_term

-- ---- the renewal

module _ (leader : Setup) (old : View) (opened : ℕ) (round : Round) (hearings : List Hearing) where
  abbrev led : View
  led = after_renewal leader old opened

  all_answer : (places : List ℕ) → length round.answers ≡ MEMBERS → round.term ≡ led.term
      → (leader.place < MEMBERS → HasAnswered round.answers leader.place)
      → AllTakePart leader led opened round hearings places → AllAnswer leader round hearings places
  all_answer [] size same_term own_so all = tt
  all_answer (place ∷ places) size same_term own_so all = (
    subst (λ (n : ℕ). place < n) (sym size) all.0,
    by_part all.1,
    all_answer places size same_term own_so all.2,
  )
    where
      by_part : (place ≡ leader.place) ⊎ TakesPart leader led opened round hearings place
          → HasAnswered round.answers place ⊎ IsAnsweredBy leader round place hearings
      by_part (inl mine) =
          inl (subst (λ (p : ℕ). HasAnswered round.answers p) (sym mine) (own_so (subst (λ (p : ℕ). p < MEMBERS) mine all.0)))
      by_part (inr takes) = inr (answered leader led opened round hearings place takes same_term)

  renews : (majority : List ℕ) → leader.times.renewal < leader.times.expire
      → ((answers : List Bool) → AllHave majority answers → is_majority leader answers ≡ true)
      → AreBelow opened (own_end old) hearings → led.round ≡ Some round
      → AllTakePart leader led opened round hearings majority
      → OpensRound leader opened old (all_kept leader opened (renew leader old opened))
      → opened + leader.times.expire ≤ own_end (after_hearings leader led hearings)
  renews majority short enough below is all opens = by_round (some_and _ led.round opens.round)
    where
      by_round : (r : Round) × (led.round ≡ Some r) × IsOpened leader opened (all_kept leader opened (renew leader old opened)) r
          → opened + leader.times.expire ≤ own_end (after_hearings leader led hearings)
      by_round (r, found, fresh) = go (some_equal (sym found ∙ is))
        where
          some_equal : {x y : Round} → Some x ≡ Some y → x ≡ y
          some_equal e = cc

          go : r ≡ round → opened + leader.times.expire ≤ own_end (after_hearings leader led hearings)
          go same =
              let now_fresh : IsOpened leader opened (all_kept leader opened (renew leader old opened)) round =
              subst (λ (x : Round). IsOpened leader opened (all_kept leader opened (renew leader old opened)) x) same fresh in
              subst (λ (at : ℕ). at + leader.times.expire ≤ own_end (after_hearings leader led hearings)) now_fresh.opened
              (answered_rounds_extend leader led round opened majority hearings short opens.leading is now_fresh.unwon
              (λ have. untrue (sym now_fresh.few ∙ enough round.answers have)) enough
              (subst (λ (ending : ℕ). AreBelow opened ending hearings) (sym opens.same_end) below)
              (all_answer majority now_fresh.size now_fresh.term now_fresh.own all))

pub renewals_succeed : RenewalsSucceed
renewals_succeed = record {
  renewed = λ leader old opened round majority hearings short two leading left enough below is all.
      renews leader old opened round hearings majority short enough below is all (leaders_open_rounds.renewed leader old opened two leading left);
  left_behind = λ leader led opened round hearings place takes. behind_again leader led opened round hearings place takes;
}
