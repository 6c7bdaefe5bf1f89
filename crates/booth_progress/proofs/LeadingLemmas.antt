-- A leader whose lease runs leads on.
use Rattle.std.proofs.Common.{◌≡◌, ◌≢◌, ◌⊎◌, inl, inr, ℕ, suc, zero, ◌+◌, ◌<◌, ◌≤◌, Bool, true, false, cond, count_by, ◌&&◌, not, List, [], ◌∷◌, arith, refl, sym, ap, ◌∙◌, subst}
use Rattle.std.specs.Prelude.{Option, Some, None, IsSomeAnd, nat_lt, nat_le, ◌==◌, max, min, length, slice_set}
use Rattle.std.specs.Option.{ForSome}
use Rattle.std.proofs.lemmas.Bool.{cases_lt}
use Rattle.std.proofs.lemmas.Bool.Decides.{nat_tests}
use Rattle.std.proofs.lemmas.List.Sums.{sum_by-cons}
use Rattle.booth_base.specs.declared.address.MemberId.{MemberId}
use Rattle.booth_rec.specs.declared.record.Record.{Record}
use Rattle.booth_rec.specs.Record.{lease_end}
use Rattle.booth_wire.specs.declared.command.Cmd.{Cmd}
use Rattle.booth_wire.specs.declared.command.Cmd.TheVariants as cmds
use Rattle.booth_wire.specs.declared.codes.reasons.TheConstants.{LOCF, SPLT}
use Rattle.booth_wire.specs.declared.message.Head.{Head}
use Rattle.booth_wire.specs.declared.message.TicketPart.{TicketPart}
use Rattle.booth_wire.specs.declared.message.Setup.{Setup}
use Rattle.booth_raft.specs.declared.view.Role.{Role}
use Rattle.booth_raft.specs.declared.view.Role.TheVariants.{Follower, Working, Candidate, Leader}
use Rattle.booth_raft.specs.declared.view.Round.{Round}
use Rattle.booth_raft.specs.declared.view.RoundKind.{RoundKind}
use Rattle.booth_raft.specs.declared.view.RoundKind.TheVariants.{Election, Renewal}
use Rattle.booth_raft.specs.declared.view.TheConstants.{LAST_NUMBER, LAST_TERM}
use Rattle.booth_raft.specs.declared.view.View.{View}
use Rattle.booth_raft.specs.GainReleaseLost.{gain, own_end}
use Rattle.booth_raft.specs.Members.{is_follower, is_leader}
use Rattle.booth_raft.specs.OtherMessages.{freed, given_back, hear, is_bound_elsewhere, is_freed_by, is_owner, refused, revoked, unasking}
use Rattle.booth_raft.specs.Outcome.{Outcome}
use Rattle.booth_raft.specs.RoundsAndAnswers.{MayAnswer, hear_answer, hear_round, is_answer_to, join, may_answer, wins, with_answer}
use Rattle.booth_raft.specs.StartAndLearn.{learned, shows_leader, with_seen}
use Rattle.booth_raft.proofs.AnswerLemmas.{tests_may_answer}
use Rattle.booth_raft.proofs.FactsLemmas.{on_cond, on_option, on_test, some_same, not_some, untrue}
use Rattle.booth_progress.specs.Kept.{AllKept}
use Rattle.booth_progress.specs.Leading.{Extends, GrewFrom, HasAnswered, IsLeading, IsSoon, IsSpent, LeadersLeadOn, LeadsOn}

-- ---- leaders

not_follower : (role : Role) (other : Bool) → is_leader role ≡ true → is_follower role && other ≡ true → ⊥
not_follower Follower other e f = untrue e
not_follower Working other e f = untrue f
not_follower Candidate other e f = untrue f
not_follower Leader other e f = untrue f

-- a view that differs in other fields alone
pub record Near (me : MemberId) (old new : View) : Type 0 where
  pub role : new.role ≡ old.role
  pub job : new.job ≡ old.job
  pub waiting : new.waiting ≡ old.waiting
  pub kept : new.kept ≡ old.kept
  pub force : new.force ≡ old.force
  pub round : new.round ≡ old.round
  pub due : new.due ≡ old.due
  pub above : max old.term old.seen ≤ max new.term new.seen
  pub abstain : new.abstain ≡ old.abstain
  pub promise : (now : ℕ) → ForSome old.promise (λ p. p.to ≢ me → p.until ≤ now) → ForSome new.promise (λ p. p.to ≢ me → p.until ≤ now)

pub near : {me : MemberId} (view : View) → Near me view view
near view = record { role = refl; job = refl; waiting = refl; kept = refl; force = refl; round = refl; due = refl; above = omega arith; abstain = refl; promise = λ at h. h }

pub near_then : {me : MemberId} (a b c : View) → Near me a b → Near me b c → Near me a c
near_then a b c p q = record {
  role = q.role ∙ p.role;
  job = q.job ∙ p.job;
  waiting = q.waiting ∙ p.waiting;
  kept = q.kept ∙ p.kept;
  force = q.force ∙ p.force;
  round = q.round ∙ p.round;
  due = q.due ∙ p.due;
  above = let first : max a.term a.seen ≤ max b.term b.seen = p.above in
      let second : max b.term b.seen ≤ max c.term c.seen = q.above in omega (arith, first, second);
  abstain = q.abstain ∙ p.abstain;
  promise = λ now h. q.promise now (p.promise now h);
}

pub set_keeps : (flags : List Bool) (p k : ℕ) → HasAnswered flags k → HasAnswered (slice_set flags p true) k
set_keeps [] p k h = h
set_keeps (flag ∷ flags) zero zero h = refl
set_keeps (flag ∷ flags) zero (suc k) h = h
set_keeps (flag ∷ flags) (suc p) zero h = h
set_keeps (flag ∷ flags) (suc p) (suc k) h = set_keeps flags p k h

pub set_length : (flags : List Bool) (p : ℕ) → length (slice_set flags p true) ≡ length flags
set_length [] p = refl
set_length (flag ∷ flags) zero = refl
set_length (flag ∷ flags) (suc p) = ap suc (set_length flags p)

pub count_cons : (flag : Bool) (flags : List Bool)
    → count_by (λ (answered : Bool). answered) (flag ∷ flags) ≡ cond flag 1 0 + count_by (λ (answered : Bool). answered) flags
count_cons flag flags = sum_by-cons (λ (answered : Bool). cond answered 1 0) flag flags

pub set_there : (flags : List Bool) (p : ℕ) → p < length flags → HasAnswered (slice_set flags p true) p
set_there [] p below = absurd (omega (arith, below))
set_there (flag ∷ flags) zero below = refl
set_there (flag ∷ flags) (suc p) below = set_there flags p (omega (arith, below))

pub same_round : (round : Round) → GrewFrom round round
same_round round = record { term = refl; number = refl; opened = refl; won = λ e. e; size = refl; answers = λ place h. h }

spent_above : (term seen later_term later_seen : ℕ) → max term seen ≤ max later_term later_seen
    → nat_le LAST_TERM (max term seen) ≡ true → nat_le LAST_TERM (max later_term later_seen) ≡ true
spent_above term seen later_term later_seen above e =
    let spent : LAST_TERM ≤ max term seen = grind (arith, nat_tests) in
    let later : LAST_TERM ≤ max later_term later_seen = omega (arith, above, spent) in grind (arith, nat_tests)

pub some_on : {A : Type 0} (P Q : A → Type 0) (o : Option A) → ((x : A) → P x → Q x) → IsSomeAnd o P → IsSomeAnd o Q
some_on P Q None on h = h
some_on P Q (Some x) on h = on x h

module _ (setup : Setup) (now : ℕ) where
  abbrev Leading : View → Type 0
  Leading view = IsLeading setup now view

  abbrev On : View → Outcome → Type 0
  On view outcome = LeadsOn setup now view outcome.view

  abbrev Still : View → View → Type 0
  Still old view =
      IsLeading setup now view × (own_end old ≤ own_end view)
      × ForSome old.round (λ round. IsSomeAnd view.round (λ grown. GrewFrom round grown))
      × ((view.due ≡ old.due) ⊎ IsSomeAnd view.round (λ round. round.won ≡ true))

  on_still : (old new : View) → Still old new → LeadsOn setup now old new
  on_still old new h = record { leading = h.0; longer = h.1; round = h.2; due = h.3 }

  keeps_round : (old new : Option Round) → new ≡ old → ForSome old (λ round. IsSomeAnd new (λ grown. GrewFrom round grown))
  keeps_round old new same r e = subst (λ (o : Option Round). IsSomeAnd o (λ grown. GrewFrom r grown)) (sym (same ∙ e)) (same_round r)

  spent_near : (old new : View) → Near setup.me old new → IsSpent old → IsSpent new
  spent_near old new same (inl spent) = inl (spent_above old.term old.seen new.term new.seen same.above spent)
  spent_near old new same (inr last) =
      inr (subst (λ (o : Option Round). IsSomeAnd o (λ round. round.number ≡ LAST_NUMBER)) (sym same.round) last)

  soon_near : (old new : View) → Near setup.me old new → (due : ℕ) → (due ≤ own_end old) × (IsSoon setup now old due ⊎ IsSpent old)
      → (due ≤ own_end new) × (IsSoon setup now new due ⊎ IsSpent new)
  soon_near old new same due (before_end, inl soon) = (rw same.kept before_end, inl (rw same.kept soon))
  soon_near old new same due (before_end, inr spent) = (rw same.kept before_end, inr (spent_near old new same spent))

  pub leading_near : (old new : View) → Near setup.me old new → Leading old → Leading new
  leading_near old new same l = record {
    leads = rw same.role l.leads;
    free = rw same.job l.free;
    rests = rw same.waiting l.rests;
    runs = rw same.kept l.runs;
    forced = rw (same.kept, same.force) l.forced;
    within = rw same.kept l.within;
    rested = rw same.abstain l.rested;
    unpromised = same.promise now l.unpromised;
    round = λ r e.
        let x : Extends setup now old r = l.round r (sym same.round ∙ e) in
        let longer : own_end old ≤ r.opened + setup.times.expire = x.longer in
        record { opened = x.opened; longer = rw same.kept longer };
    due = subst (λ (o : Option ℕ). IsSomeAnd o (λ due. (due ≤ own_end new) × (IsSoon setup now new due ⊎ IsSpent new))) (sym same.due)
        (some_on _ _ old.due (soon_near old new same) l.due);
  }

  still_near : (old new : View) → Near setup.me old new → Leading old → Still old new
  still_near old new same l = (leading_near old new same l, ends (ap (λ (k : Record). lease_end k.lease) same.kept), keeps_round old.round new.round same.round, inl same.due)
    where
      ends : own_end new ≡ own_end old → own_end old ≤ own_end new
      ends e = omega (arith, e)

  -- ---- what is heard

  pub seen_near : (view : View) (heard : ℕ) → Near setup.me view (with_seen view heard)
  seen_near view heard = record { role = refl; job = refl; waiting = refl; kept = refl; force = refl; round = refl; due = refl; above = omega arith; abstain = refl; promise = λ at h. h }

  pub refused_near : (view : View) (head : Head) (part : TicketPart) → Near setup.me view (refused setup view head part)
  refused_near view head part =
      on_cond (λ (w : View). Near setup.me view w) (setup.steady && is_bound_elsewhere view.round head part)
      (with_seen view (min (view.term + 1) 4294967295)) view (seen_near view (min (view.term + 1) 4294967295)) (near view)

  pub unasking_near : (view : View) (reason : ℕ) → Near setup.me view (unasking setup view reason)
  unasking_near view reason =
      on_cond (λ (w : View). Near setup.me view w) (setup.steady && not (reason == SPLT)) (record view { hello = false }) view
      (record { role = refl; job = refl; waiting = refl; kept = refl; force = refl; round = refl; due = refl; above = omega arith; abstain = refl; promise = λ at h. h })
      (near view)

  pub answers_nobody : (view : View) (site : MemberId) (term : ℕ) → Leading view → may_answer view site term now ≡ true → ⊥
  answers_nobody view site term l e =
      let may : MayAnswer view site term now = (tests_may_answer view site term now).0 e in
      let free : view.force ≤ now = may.unforced in
      let runs : now < own_end view = l.runs in
      let forced : own_end view ≤ view.force = l.forced in
      absurd (omega (arith, free, runs, forced))

  round_refused : (old view : View) (kind : RoundKind) (head : Head) (part : TicketPart) → Leading view → Still old view
      → AllKept setup now (On old) (hear_round setup view kind head part now)
  round_refused old view kind head part l still =
      on_test (AllKept setup now (On old)) (may_answer view head.from part.term now) _ _
      (λ e. absurd (answers_nobody view head.from part.term l e))
      (λ e. record { leading = still.0; longer = still.1; round = still.2; due = still.3 })

  -- ---- other messages

  -- a leader learns of no other owner
  pub learns_term : (view : View) (part : TicketPart) → Leading view → learned setup view part now ≡ with_seen view part.term
  learns_term view part l =
      on_test (λ (w : View). w ≡ with_seen view part.term) (shows_leader setup view part now) _ _
      (λ e. absurd (barred e)) (λ e. refl)
    where
      barred : shows_leader setup view part now ≡ true → ⊥
      barred e =
          let last : nat_le view.force now ≡ true = grind arith in
          let free : view.force ≤ now = grind (arith, nat_tests) in
          let runs : now < own_end view = l.runs in
          let forced : own_end view ≤ view.force = l.forced in
          absurd (omega (arith, free, runs, forced))

  pub learned_near : (view : View) (part : TicketPart) → Leading view → Near setup.me view (learned setup view part now)
  learned_near view part l =
      subst (λ (w : View). Near setup.me view w) (sym (learns_term view part l)) (seen_near view part.term)

  given_near : (view : View) (reason : ℕ) → is_leader view.role ≡ true → Near setup.me view (given_back setup view reason now)
  given_near view reason leads =
      on_cond (λ (w : View). Near setup.me view w) (reason == LOCF) _ _
      (on_test (λ (w : View). Near setup.me view w) (is_follower view.role && setup.site) _ view
      (λ e. absurd (not_follower view.role setup.site leads e))
      (λ e. near view))
      (on_test (λ (w : View). Near setup.me view w) (is_follower view.role && view.repeat == 0) _ _
      (λ e. absurd (not_follower view.role (view.repeat == 0) leads e))
      (λ e. record { role = refl; job = refl; waiting = refl; kept = refl; force = refl; round = refl; due = refl; above = omega arith; abstain = refl; promise = λ at h. h }))

  freed_near : (view : View) (site : MemberId) (term : ℕ) → Near setup.me view (freed view site term)
  freed_near view site term =
      on_cond (λ (w : View). Near setup.me view w) (is_freed_by view.promise site term) (record view { promise = None }) view
      (record { role = refl; job = refl; waiting = refl; kept = refl; force = refl; round = refl; due = refl; above = omega arith; abstain = refl; promise = λ at h p e. absurd (not_some e) })
      (near view)

  pub revoked_near : (view : View) (site : MemberId) (term reason : ℕ) → is_leader view.role ≡ true
      → Near setup.me view (revoked setup view site term reason now)
  revoked_near view site term reason leads =
      let free : View = freed view site term in
      let hidden : View = record free { shown = None } in
      let to_free : Near setup.me view free = freed_near view site term in
      let to_hidden : Near setup.me free hidden = record { role = refl; job = refl; waiting = refl; kept = refl; force = refl; round = refl; due = refl; above = omega arith; abstain = refl; promise = λ at h. h } in
      let both : Near setup.me view hidden = near_then view free hidden to_free to_hidden in
      on_cond (λ (w : View). Near setup.me view w) (nat_le view.term term && is_owner view.shown site && not (reason == SPLT)) _ _
      (near_then view hidden (given_back setup hidden reason now) both
      (given_near hidden reason (ap (λ (r : Role). is_leader r) both.role ∙ leads)))
      to_free

  module _ (short : setup.times.renewal < setup.times.expire) where
    joined : (old view : View) (round : Round) (place : ℕ) → own_end old ≤ own_end view → Leading view → old.round ≡ Some round
        → view.round ≡ Some round → view.due ≡ old.due → AllKept setup now (On old) (join setup view (with_answer round place) now)
    joined old view round place no_less l was is same_due =
        on_test (AllKept setup now (On old)) (wins setup (with_answer round place) now) _ _ won
        (λ e. record {
          leading = record {
            leads = l.leads;
            free = l.free;
            rests = l.rests;
            runs = l.runs;
            forced = l.forced;
            within = l.within;
            rested = l.rested;
            unpromised = l.unpromised;
            round = λ r e. extends r (some_same e);
            due = some_on _ _ view.due stays l.due;
          };
          longer = no_less;
          round = λ r e.
              let same : round ≡ r = some_same (sym was ∙ e) in
              grown round.won r same (λ w. ap (λ (x : Round). x.won) same ∙ w);
          due = inl same_due;
        })
      where
        extended : Extends setup now view round
        extended = l.round round is

        -- an answer changes no number of a round
        stays : (due : ℕ) → (due ≤ own_end view) × (IsSoon setup now view due ⊎ IsSpent view)
            → (due ≤ own_end view) × (IsSoon setup now view due ⊎ IsSpent (record view { round = Some (with_answer round place) }))
        stays due (before_end, inl soon) = (before_end, inl soon)
        stays due (before_end, inr (inl spent)) = (before_end, inr (inl spent))
        stays due (before_end, inr (inr last)) =
            (before_end, inr (inr (subst (λ (o : Option Round). IsSomeAnd o (λ r. r.number ≡ LAST_NUMBER)) is last)))

        opened : round.opened ≤ now
        opened = extended.opened

        longer : own_end view ≤ round.opened + setup.times.expire
        longer = extended.longer

        extends : (r : Round) → with_answer round place ≡ r
            → Extends setup now (record view { round = Some (with_answer round place) }) r
        extends r e =
            let at : round.opened ≡ r.opened = ap (λ (x : Round). x.opened) e in
            record { opened = omega (arith, at, opened); longer = omega (arith, at, longer) }

        grown : (b : Bool) (r : Round) → round ≡ r → (r.won ≡ true → b ≡ true) → GrewFrom r (record (with_answer round place) { won = b })
        grown b r e won = record {
          term = ap (λ (x : Round). x.term) e;
          number = ap (λ (x : Round). x.number) e;
          opened = ap (λ (x : Round). x.opened) e;
          won = won;
          size = set_length round.answers place ∙ ap (λ (x : Round). length x.answers) e;
          answers = λ k h. set_keeps round.answers place k (subst (λ (x : Round). HasAnswered x.answers k) (sym e) h);
        }

        won : wins setup (with_answer round place) now ≡ true
            → AllKept setup now (On old) (gain setup (record view { round = Some (with_answer round place) }) (with_answer round place) now)
        won e =
            let ending : ℕ = round.opened + setup.times.expire in
            let in_time : nat_lt now (round.opened + setup.times.expire) ≡ true = grind arith in
            let early : now < round.opened + setup.times.expire = grind (arith, nat_tests) in
            let renewed : (max (now + 1) (round.opened + setup.times.renewal) ≤ now + setup.times.timeout + 1)
            ⊎ (max (now + 1) (round.opened + setup.times.renewal) + setup.times.expire
            ≤ round.opened + setup.times.expire + setup.times.renewal) = elim (cases_lt (now + 1) (round.opened + setup.times.renewal)) [
              | inl below ↦ inr (omega (arith, below))
              | inr above ↦ inl (omega (arith, above))
            ] in
            record {
              leading = record {
                leads = refl;
                free = l.free;
                rests = refl;
                runs = early;
                forced = omega arith;
                within = omega (arith, opened);
                rested = l.rested;
                unpromised = l.unpromised;
                round = λ r e.
                    let at : round.opened ≡ r.opened = ap (λ (x : Round). x.opened) (some_same e) in
                    record { opened = omega (arith, at, opened); longer = omega (arith, at) };
                due = (omega (arith, early, short), inl renewed);
              };
              longer = omega (arith, no_less, longer);
              round = λ r e. grown true r (some_same (sym was ∙ e)) (λ w. refl);
              due = inr refl;
            }

    answer_heard : (old view : View) (place : ℕ) (head : Head) (part : TicketPart) → old.round ≡ view.round → view.due ≡ old.due
        → Leading view → Still old view → AllKept setup now (On old) (hear_answer setup view place head part now)
    answer_heard old view place head part same same_due l still =
        on_option (AllKept setup now (On old)) view.round _ _
        (λ e. on_still old view still)
        (λ round e. on_cond (AllKept setup now (On old)) (is_answer_to setup round head part) _ _
        (joined old view round place still.1 l (same ∙ e) e same_due)
        (on_still old view still))

    heard_on : (view : View) (place : ℕ) (head : Head) (part : TicketPart) (cmd : Cmd) → Leading view
        → AllKept setup now (On view) (hear setup view place head part now cmd)
    heard_on view place head part cmd l = by_cmd cmd
      where
        seen : View
        seen = with_seen view part.term

        seen_leads : Leading seen
        seen_leads = leading_near view seen (seen_near view part.term) l

        still : Still view seen
        still = still_near view seen (seen_near view part.term) l

        by_cmd : (cmd : Cmd) → AllKept setup now (On view) (hear setup view place head part now cmd)
        by_cmd cmds.RVot =
            on_cond (AllKept setup now (On view)) (head.options == 0) _ _
            (round_refused view seen Election head part seen_leads still) (on_still view _ still)
        by_cmd cmds.HrtB =
            on_cond (AllKept setup now (On view)) (head.options == 0) _ _
            (on_still view _ still) (round_refused view seen Renewal head part seen_leads still)
        by_cmd cmds.VtFr =
            on_cond (AllKept setup now (On view)) (head.options == 0) _ _
            (answer_heard view seen place head part refl refl seen_leads still) (on_still view _ still)
        by_cmd cmds.Ack =
            on_cond (AllKept setup now (On view)) (head.options == 0) _ _
            (on_still view _ still) (answer_heard view seen place head part refl refl seen_leads still)
        by_cmd cmds.Stat = on_still view _ (still_near view (learned setup view part now) (learned_near view part l) l)
        by_cmd cmds.MIdx = on_still view _ (still_near view (learned setup view part now) (learned_near view part l) l)
        by_cmd cmds.Rjc =
            let rejected : View = refused setup view head part in
            on_still view _ (still_near view (learned setup rejected part now)
            (near_then view rejected (learned setup rejected part now) (refused_near view head part)
            (learned_near rejected part (leading_near view rejected (refused_near view head part) l))) l)
        by_cmd cmds.UpdE = on_still view _ (still_near view (learned setup view part now) (learned_near view part l) l)
        by_cmd cmds.Revk =
            let unasked : View = unasking setup seen head.reason in
            let to_unasked : Near setup.me view unasked =
            near_then view seen unasked (seen_near view part.term) (unasking_near seen head.reason) in
            on_still view _ (still_near view (revoked setup unasked head.from part.term head.reason now)
            (near_then view unasked (revoked setup unasked head.from part.term head.reason now) to_unasked
            (revoked_near unasked head.from part.term head.reason
            (ap (λ (r : Role). is_leader r) to_unasked.role ∙ l.leads))) l)
        by_cmd other = on_still view _ (still_near view view (near view) l)

pub leaders_lead_on : LeadersLeadOn
leaders_lead_on setup view now place head part cmd short l = heard_on setup now short view place head part cmd l
