-- A round that is heard, and other messages, as steps of the member.
use Rattle.std.proofs.Common.{◌≡◌, ℕ, ◌+◌, ◌*◌, ◌<◌, ◌≤◌, [], ◌∷◌, Bool, true, false, cond, ◌&&◌, refl, sym, ap, ◌∙◌, subst, inl, inr, ⊎_elim, arith}
use Rattle.std.specs.Prelude.{Option, Some, None, not, ◌==◌, ◌||◌, nat_lt, nat_le, IsTrue}
use Rattle.std.specs.Option.{ForSome}
use Rattle.std.proofs.lemmas.Bool.Decides.{nat_tests}
use native.Mathlib.Nat.{le_refl}
use Rattle.booth_base.specs.declared.address.MemberId.{MemberId}
use Rattle.booth_wire.specs.declared.message.Head.{Head}
use Rattle.booth_wire.specs.declared.message.TicketPart.{TicketPart}
use Rattle.booth_wire.specs.declared.message.Setup.{Setup}
use Rattle.booth_wire.specs.declared.codes.reasons.TheConstants.{LOCF, SPLT}
use Rattle.booth_rec.specs.declared.record.Promise.{Promise as ViewPromise}
use Rattle.booth_raft.specs.declared.view.Round.{Round as ViewRound}
use Rattle.booth_raft.specs.declared.view.RoundKind.{RoundKind}
use Rattle.booth_raft.specs.declared.view.RoundKind.TheVariants.{Election, Renewal}
use Rattle.booth_raft.specs.declared.view.View.{View}
use Rattle.booth_raft.specs.Facts.{RoundFits}
use Rattle.booth_rec.specs.declared.record.Lease.{Lease}
use Rattle.booth_rec.specs.declared.record.Record.{Record}
use Rattle.booth_raft.specs.GainReleaseLost.{record_of}
use Rattle.booth_raft.specs.declared.deed.Told.{Told}
use Rattle.booth_raft.specs.declared.view.Rule.{Rule}
use Rattle.booth_raft.specs.declared.view.Rule.TheVariants as rules
use Rattle.booth_raft.specs.declared.view.Waiting.{Waiting}
use Rattle.booth_raft.specs.Members.{is_candidate, is_leader, is_follower, is_same}
use Rattle.booth_raft.specs.Outcome.{Outcome, keeping, quiet, saying}
use Rattle.booth_world.specs.Facts.{Has, Round, Release, Facts}
use Rattle.booth_world.specs.States.{KeptRecord, Promise, MemberState, Cluster, promise_time}
use Rattle.booth_world.specs.Rounds.{new_promise, new_answer, promising}
use Rattle.booth_world.specs.Leases.{pledge_of, MayLease, trying, cleared}
use Rattle.booth_world.specs.Steps.{Promises, Answers, TriesKeep, Clears}
use Rattle.booth_world.specs.Agreement.{AreIds, seat, promise_in, record_in, records_in, IsTried, IsAsked, Agrees}
use Rattle.booth_world.specs.Messages.{IsFact, AnswerSaid, ReleaseSaid}
use Rattle.booth_world.specs.Gives.{LeadsTo, mark_of, given_by}
use Rattle.booth_world.proofs.Lists.{none_is, some_same}
use Rattle.booth_world.proofs.Invariant.{FactsGood}
use Rattle.booth_world.proofs.Views.{on_cond, on_test, may_promise, SameParts, nothing_waits, agrees_same, rests, leads_on, IsPlaced, adds_none, adds_answer, keeper_of, lease_of, record_made}
use Rattle.booth_raft.specs.OtherMessages.{freed, given_back, is_bound_elsewhere, is_freed_by, is_owner, refused, revoked, unasking}
use Rattle.booth_raft.specs.RoundsAndAnswers.{may_answer, promised, told_by_answer, stood_down, shows_site, with_site, with_due, answered_round, hear_round}
use Rattle.booth_raft.specs.StartAndLearn.{with_seen, awaits_failover, with_shown, shows_leader, with_failover, learned}
use Rattle.booth_raft.specs.Messages.{answer_cmd, answers_round, head_of, part_of}
use Rattle.booth_world.specs.Rounds.{with_answer}
use Rattle.booth_world.specs.Leases.{clearing}
use Rattle.booth_raft.specs.RoundsAndAnswers.{MayAnswer}
use Rattle.booth_raft.proofs.FactsLemmas.{on_active}
use Rattle.booth_raft.proofs.AnswerLemmas.{tests_may_answer, is_same-true, same-is_same}

pub untrue : false ≡ true → ⊥
untrue e = cc

-- the same view
pub unchanged : (view : View) → view.waiting ≡ None → SameParts view view
unchanged view none = record { term = refl; bound = refl; promise = refl; abstain = refl; kept = refl; round = inl refl; role = λ h. h; repeated = λ h. (h, refl); waiting = none }

pub then_same : (a b c : View) → SameParts a b → SameParts b c → SameParts a c
then_same a b c p q = record {
  term = q.term ∙ p.term;
  bound = q.bound ∙ p.bound;
  promise = q.promise ∙ p.promise;
  abstain = q.abstain ∙ p.abstain;
  kept = q.kept ∙ p.kept;
  round = ⊎_elim (λ (same : c.round ≡ b.round). ⊎_elim (λ (old : b.round ≡ a.round). inl (same ∙ old)) (λ (gone : b.round ≡ None). inr (same ∙ gone)) p.round) (λ (gone : c.round ≡ None). inr gone) q.round;
  role = λ h. p.role (q.role h);
  repeated = λ h. let r = q.repeated h in let o = p.repeated r.0 in (o.0, r.1 ∙ o.1);
  waiting = q.waiting;
}

-- ---- learn

pub same_learned : (setup : Setup) (view : View) (part : TicketPart) (now : ℕ) → view.waiting ≡ None → SameParts view (learned setup view part now)
same_learned setup view part now none =
    let shown : View = with_shown (with_seen view part.term) part.leader (now + 1000 * part.valid_for) in
    on_cond (λ (w : View). SameParts view w) (shows_leader setup view part now) (with_failover setup shown) (with_seen view part.term)
    (on_cond (λ (w : View). SameParts view w) (awaits_failover setup shown) _ shown
    (record { term = refl; bound = refl; promise = refl; abstain = refl; kept = refl; round = inl refl; role = λ h. h; repeated = λ h. (h, refl); waiting = none })
    (record { term = refl; bound = refl; promise = refl; abstain = refl; kept = refl; round = inl refl; role = λ h. h; repeated = λ h. (h, refl); waiting = none }))
    (record { term = refl; bound = refl; promise = refl; abstain = refl; kept = refl; round = inl refl; role = λ h. h; repeated = λ h. (h, refl); waiting = none })

-- ---- a refusal is heard, and a release

pub same_refused : (setup : Setup) (view : View) (head : Head) (part : TicketPart) → view.waiting ≡ None → SameParts view (refused setup view head part)
same_refused setup view head part none =
    on_cond (λ (w : View). SameParts view w) (setup.steady && is_bound_elsewhere view.round head part) _ view
    (record { term = refl; bound = refl; promise = refl; abstain = refl; kept = refl; round = inl refl; role = λ h. h; repeated = λ h. (h, refl); waiting = none }) (unchanged view none)

pub same_unasking : (setup : Setup) (view : View) (reason : ℕ) → view.waiting ≡ None → SameParts view (unasking setup view reason)
same_unasking setup view reason none =
    on_cond (λ (w : View). SameParts view w) (setup.steady && not (reason == SPLT)) _ view
    (record { term = refl; bound = refl; promise = refl; abstain = refl; kept = refl; round = inl refl; role = λ h. h; repeated = λ h. (h, refl); waiting = none }) (unchanged view none)

-- ---- a round is heard

-- who stood down has no round
stood_down_same : (view : View) → view.waiting ≡ None → SameParts view (stood_down view)
stood_down_same view none =
    on_active (λ (w : View). SameParts view w) view.role _ _ view
    (record { term = refl; bound = refl; promise = refl; abstain = refl; kept = refl; round = inr refl; role = λ h. absurd (untrue h); repeated = λ h. (h, refl); waiting = none })
    (record { term = refl; bound = refl; promise = refl; abstain = refl; kept = refl; round = inr refl; role = λ h. h; repeated = λ h. (h, refl); waiting = none })
    (λ rests. unchanged view none)

never_active : (o : Option ViewRound) (active : Bool) → active ≡ false → ForSome o (λ r. IsTrue active) → o ≡ None
never_active None active e fits = refl
never_active (Some r) active e fits = absurd (untrue (sym e ∙ fits r refl))

no_round_left : (view : View) → ForSome view.round (λ r. IsTrue (is_candidate view.role || is_leader view.role)) → (stood_down view).round ≡ None
no_round_left view fits =
    on_active (λ (w : View). w.round ≡ None) view.role _ _ view refl refl
    (λ rests. never_active view.round (is_candidate view.role || is_leader view.role) rests fits)

with_site_same : (view : View) (site : MemberId) (kind : RoundKind) (part : TicketPart) (now : ℕ) → view.waiting ≡ None → SameParts view (with_site view site kind part now)
with_site_same view site kind part now none =
    on_cond (λ (w : View). SameParts view w) (shows_site kind part) (with_shown view site (now + 1000 * part.valid_for)) view
    (record { term = refl; bound = refl; promise = refl; abstain = refl; kept = refl; round = inl refl; role = λ h. h; repeated = λ h. (h, refl); waiting = none }) (unchanged view none)

with_due_same : (setup : Setup) (view : View) (kind : RoundKind) (part : TicketPart) (now : ℕ) → view.waiting ≡ None → SameParts view (with_due setup view kind part now)
with_due_same setup view kind part now none =
    on_cond (λ (w : View). SameParts view w) (awaits_failover setup view && view.managed) _ view
    (record { term = refl; bound = refl; promise = refl; abstain = refl; kept = refl; round = inl refl; role = λ h. h; repeated = λ h. (h, refl); waiting = none }) (unchanged view none)

-- the view after an answer, from the one that stood down
answering_same : (setup : Setup) (view : View) (site : MemberId) (kind : RoundKind) (part : TicketPart) (now : ℕ) → view.waiting ≡ None
    → SameParts (stood_down (promised setup view site part.term now)) (answered_round setup view site kind part now)
answering_same setup view site kind part now none =
    let bound : View = promised setup view site part.term now in
    let still : View = stood_down bound in
    let first = stood_down_same bound none in
    let second = with_site_same still site kind part now first.waiting in
    then_same still (with_site still site kind part now) (answered_round setup view site kind part now) second
    (with_due_same setup (with_site still site kind part now) kind part now second.waiting)

-- an answer that was given is a fact
pub answer_said : (id_of : ℕ → MemberId) (f : Facts) (m : ℕ) (head : Head) (part : TicketPart) (kind : RoundKind) → AnswerSaid id_of f m part.leader part.term head.options → IsFact id_of f m head part (answer_cmd kind)
answer_said id_of f m head part Election said = said
answer_said id_of f m head part Renewal said = said

-- steps lead to an outcome
abbrev pub LeadsToOutcome : Cluster → (ℕ → MemberId) → ℕ → ℕ → Facts → MemberState → Outcome → Type 0
LeadsToOutcome c id_of now m f x outcome = LeadsTo c id_of (mark_of now m x) f x (given_by outcome (records_in id_of x.may) f.releases)

-- ids are equal where places are
pub same_test : (members : ℕ) (id_of : ℕ → MemberId) → AreIds members id_of → (a b : ℕ) → a < members → b < members → is_same (id_of a) (id_of b) ≡ (a == b)
same_test members id_of ids a b al bl = by_tests (is_same (id_of a) (id_of b)) (a == b) refl refl
  where
    by_tests : (p q : Bool) → is_same (id_of a) (id_of b) ≡ p → (a == b) ≡ q → p ≡ q
    by_tests true true e k = refl
    by_tests false false e k = refl
    by_tests true false e k = let same = ids a b al bl (is_same-true (id_of a) (id_of b) e) in absurd (grind (arith, nat_tests))
    by_tests false true e k =
        let same : a ≡ b = grind (arith, nat_tests) in
        absurd (untrue (sym e ∙ same-is_same (id_of a) (id_of b) (ap id_of same)))

-- a promise is dropped in the view where it is in the world
pub freed_promise : (members : ℕ) (id_of : ℕ → MemberId) → AreIds members id_of → (o : Option Promise) (s t : ℕ) → s < members → ForSome o (λ p. p.to < members)
    → promise_in id_of (cleared o s t) ≡ cond (is_freed_by (promise_in id_of o) (id_of s) t) None (promise_in id_of o)
freed_promise members id_of ids None s t below to_below = refl
freed_promise members id_of ids (Some p) s t below to_below = rw (same_test members id_of ids p.to s (to_below p refl) below) (by_tests (p.to == s) (nat_lt t p.term) (nat_le p.term t) refl refl)
  where
    by_tests : (a b d : Bool) → nat_lt t p.term ≡ b → nat_le p.term t ≡ d
        → promise_in id_of (cond (a && not b) None (Some p)) ≡ cond (a && d) None (promise_in id_of (Some p))
    by_tests false b d e k = refl
    by_tests true true false e k = refl
    by_tests true false true e k = refl
    by_tests true true true e k = absurd (grind (arith, nat_tests))
    by_tests true false false e k = absurd (grind (arith, nat_tests))

-- a promise that was not cleared is the same one
cleared_within : (members : ℕ) (o : Option Promise) (s t : ℕ) → ForSome o (λ p. p.to < members) → ForSome (cleared o s t) (λ p. p.to < members)
cleared_within members None s t below = below
cleared_within members (Some p) s t below =
    on_cond (λ (o : Option Promise). ForSome o (λ p. p.to < members)) (p.to == s && not (nat_lt t p.term)) None (Some p)
    (λ q e. absurd (none_is q e)) below

-- The keep of a view's record is tried.
module _ (c : Cluster) (id_of : ℕ → MemberId) (now m : ℕ) (setup : Setup) where
  pub tries_record : (f : Facts) (x : MemberState) (view : View) (rule : Rule) (lease : Option Lease)
      → Agrees c id_of f m view x → MayLease c f x lease → IsAsked c id_of f m x view rule
      → LeadsToOutcome c id_of now m f x (keeping view rule (record_of (seat c id_of m x.second x.phase setup) view lease) x.reading)
  tries_record f x view rule lease a may asked = record {
    steps = TriesKeep tried ∷ [];
    starts_so = (tt, tt);
    run = (record { up = a.up; keeper = keeper_of c id_of f m x view rule asked; own_term = a.term; pledge = refl; lease = may }, tt);
    reached = record {
      agrees = record {
        up = a.up;
        term = a.term;
        bound = a.bound;
        promise = a.promise;
        abstain = a.abstain;
        within = a.within;
        kept = inr a.kept;
        round = a.round;
        tried = λ w e. subst (λ (w : Waiting). IsTried id_of (trying x tried) w.tried) (some_same _ w e) (record { kept = tried; may = inl refl; same = made; pledge = refl });
        asked = λ w e. subst (λ (w : Waiting). IsAsked c id_of f m (trying x tried) after w.rule) (some_same _ w e) (asked_again rule asked);
        active = a.active;
        repeated = a.repeated;
      };
      said = tt;
      may_now = ap (λ (k : Record). k ∷ records_in id_of x.may) made;
      same_second = refl;
      same_phase = refl;
      same_reading = refl;
      same_at = refl;
    };
    adds = adds_none (mark_of now m x) f;
  }
    where
      tried : KeptRecord
      tried = record { term = view.term; lease = lease; pledge = pledge_of x }

      made : record_in id_of tried ≡ record_of (seat c id_of m x.second x.phase setup) view lease
      made = record_made c id_of f m view x setup lease a

      after : View
      after = (keeping view rule (record_of (seat c id_of m x.second x.phase setup) view lease) x.reading).view

      asked_again : (rule : Rule) → IsAsked c id_of f m x view rule → IsAsked c id_of f m (trying x tried) after rule
      asked_again rules.Gain q = q
      asked_again (rules.Ask reason) q = q
      asked_again (rules.Release reason) q = q
      asked_again rules.EndRound q = q
      asked_again (rules.Answer kind to number request told) q = q
      asked_again (rules.Renew number) q = q

module _ (c : Cluster) (id_of : ℕ → MemberId) (now m : ℕ) (ids : IsPlaced c id_of m) (f : Facts) (x : MemberState) (setup : Setup) where
  -- what is known of a round that is heard
  record IsHeardOf (view : View) (head : Head) (part : TicketPart) (r : Round) : Type 0 where
    timely : x.at ≡ now
    none : view.waiting ≡ None
    fits : RoundFits view.term view.role view.round
    agrees : Agrees c id_of f m view x
    fact : Has f.rounds r
    from : head.from ≡ id_of r.site
    term : r.term ≡ part.term
    number : r.number ≡ head.options

  -- the promise, in the view and in the world
  promised_agrees : (view : View) (kind : RoundKind) (head : Head) (part : TicketPart) (r : Round) (g : Facts)
      → FactsGood c now f → IsHeardOf view head part r → (0 < view.repeat → ReleaseSaid g m view.repeat_term)
      → Agrees c id_of g m (answered_round (seat c id_of m x.second x.phase setup) view head.from kind part x.reading) (promising c m x r.site part.term)
  promised_agrees view kind head part r g good h repeated =
      agrees_same c id_of g m gone final _
      (record { term = s.term; bound = s.bound; promise = s.promise; abstain = s.abstain; kept = s.kept; round = inr none_final; role = s.role; repeated = s.repeated; waiting = s.waiting })
      (record {
        up = a.up;
        term = refl;
        bound = ap (λ (i : MemberId). let o : Option MemberId = Some i in o) h.from;
        promise = ap (λ (i : MemberId). let o : Option ViewPromise = Some (record { to = i; term = part.term; until = x.reading + promise_time c x.phase }) in o) h.from;
        abstain = a.abstain;
        within = record {
          bound_below = λ s e. subst (λ (s : ℕ). s < c.members) (some_same r.site s e) (good.rounds r h.fact).below;
          promise_below = λ p e. subst (λ (p : Promise). p.to < c.members) (some_same _ p e) (good.rounds r h.fact).below;
        };
        kept = a.kept;
        round = λ r e. absurd (none_is r e);
        tried = nothing_waits _ view.waiting h.none;
        asked = nothing_waits _ view.waiting h.none;
        active = a.active;
        repeated = repeated;
      })
    where
      a : Agrees c id_of f m view x
      a = h.agrees

      bound : View
      bound = promised (seat c id_of m x.second x.phase setup) view head.from part.term x.reading

      gone : View
      gone = record bound { round = None }

      final : View
      final = answered_round (seat c id_of m x.second x.phase setup) view head.from kind part x.reading

      last : SameParts (stood_down bound) final
      last = answering_same (seat c id_of m x.second x.phase setup) view head.from kind part x.reading h.none

      s : SameParts bound final
      s = then_same bound (stood_down bound) final (stood_down_same bound h.none) last

      none_final : final.round ≡ None
      none_final = ⊎_elim
          (λ (same : final.round ≡ (stood_down bound).round). same ∙ no_round_left bound h.fits.active)
          (λ (none : final.round ≡ None). none)
          last.round

  past : (r : Round) → FactsGood c now f → Has f.rounds r → x.at ≡ now → r.at ≤ x.at
  past r good fact timely = let l = (good.rounds r fact).past in omega (arith, l, timely)

  may : (view : View) (head : Head) (part : TicketPart) (r : Round) → IsHeardOf view head part r → may_answer view head.from part.term x.reading ≡ true
      → MayAnswer view (id_of r.site) part.term x.reading
  may view head part r h test = subst (λ (i : MemberId). MayAnswer view i part.term x.reading) h.from ((tests_may_answer view head.from part.term x.reading).0 test)

  -- Round heard in version 1: where it is answered, a promise and an answer
  answers_it : (view : View) (kind : RoundKind) (head : Head) (part : TicketPart) (r : Round) (told : Told)
      → FactsGood c now f → IsHeardOf view head part r → x.second ≡ false → may_answer view head.from part.term x.reading ≡ true
      → LeadsToOutcome c id_of now m f x (saying (answered_round (seat c id_of m x.second x.phase setup) view head.from kind part x.reading) (answers_round (seat c id_of m x.second x.phase setup) kind head.from head.options head.request part.term) told)
  answers_it view kind head part r told good h first test = record {
    steps = Promises r.site part.term ∷ Answers r (new_promise c x r.site part.term) ∷ [];
    starts_so = (tt, (tt, tt));
    run = (
      may_promise c id_of f m view x ids.apart h.agrees r.site part.term (good.rounds r h.fact).below (good.rounds r h.fact).site (may view head part r h test),
      (
        record {
          up = (h.agrees).up;
          fact = h.fact;
          own_term = sym h.term;
          bound = refl;
          stands = refl;
          to = refl;
          for_term = sym h.term;
          long = le_refl _;
          later = past r good h.fact h.timely;
          kept = λ second. absurd (untrue (sym first ∙ second));
        },
        tt,
      ),
    );
    reached = record {
      agrees = promised_agrees view kind head part r (with_answer f (new_answer m x r)) good h (h.agrees).repeated;
      said = answer_said id_of (with_answer f (new_answer m x r)) m (head_of (seat c id_of m x.second x.phase setup) (answer_cmd kind) head.request head.options 0 0) (part_of (seat c id_of m x.second x.phase setup) head.from part.term 0) kind (new_answer m x r, inl refl, refl, sym h.from, h.term, h.number);
      may_now = refl;
      same_second = refl;
      same_phase = refl;
      same_reading = refl;
      same_at = refl;
    };
    adds = adds_answer (mark_of now m x) f (new_answer m x r) (refl, refl, refl);
  }

  -- Round heard in version 2: where it is promised to, a promise, and the keep of it is tried
  promises_it : (view : View) (kind : RoundKind) (head : Head) (part : TicketPart) (r : Round) (told : Told)
      → FactsGood c now f → IsHeardOf view head part r → x.second ≡ true → may_answer view head.from part.term x.reading ≡ true
      → LeadsToOutcome c id_of now m f x (keeping (answered_round (seat c id_of m x.second x.phase setup) view head.from kind part x.reading)
      (rules.Answer kind head.from head.options head.request told)
      (record_of (seat c id_of m x.second x.phase setup) (answered_round (seat c id_of m x.second x.phase setup) view head.from kind part x.reading) (answered_round (seat c id_of m x.second x.phase setup) view head.from kind part x.reading).kept.lease) x.reading)
  promises_it view kind head part r told good h second test =
      leads_on c id_of (mark_of now m x) f x _ (Promises r.site part.term ∷ [])
      (may_promise c id_of f m view x ids.apart h.agrees r.site part.term (good.rounds r h.fact).below (good.rounds r h.fact).site (may view head part r h test), tt) (tt, tt)
      f.releases (adds_none (mark_of now m x) f)
      (tries_record c id_of now m setup f (promising c m x r.site part.term) final (rules.Answer kind head.from head.options head.request told) final.kept.lease
      agrees (lease_of c id_of f m final (promising c m x r.site part.term) agrees)
      (record { in_second = second; round = r; fact = h.fact; site = h.from; own_term = h.term; own_number = h.number; later = past r good h.fact h.timely; is_bound = refl; given = refl }))
    where
      final : View
      final = answered_round (seat c id_of m x.second x.phase setup) view head.from kind part x.reading

      agrees : Agrees c id_of f m final (promising c m x r.site part.term)
      agrees = promised_agrees view kind head part r f good h (h.agrees).repeated

  pub hears_round : (view : View) (kind : RoundKind) (head : Head) (part : TicketPart) (r : Round)
      → FactsGood c now f → x.at ≡ now → view.waiting ≡ None → RoundFits view.term view.role view.round → Agrees c id_of f m view x
      → Has f.rounds r → head.from ≡ id_of r.site → r.term ≡ part.term → r.number ≡ head.options
      → LeadsToOutcome c id_of now m f x (hear_round (seat c id_of m x.second x.phase setup) view kind head part x.reading)
  hears_round view kind head part r good timely none fits a fact from term number =
      let h : IsHeardOf view head part r = record { timely = timely; none = none; fits = fits; agrees = a; fact = fact; from = from; term = term; number = number } in
      on_test (λ (o : Outcome). LeadsToOutcome c id_of now m f x o) (may_answer view head.from part.term x.reading) _ _
      (λ test. on_test (λ (o : Outcome). LeadsToOutcome c id_of now m f x o) x.second _ _
      (λ second. promises_it view kind head part r (told_by_answer view.role) good h second test)
      (λ first. answers_it view kind head part r (told_by_answer view.role) good h first test))
      (λ test. rests c id_of now m f x view _ a tt)

  -- a promise that is freed in the view is cleared in the world
  freed_agrees : (view : View) (z : Release) → z.site < c.members → view.waiting ≡ None → Agrees c id_of f m view x
      → Agrees c id_of f m (freed view (id_of z.site) z.term) (clearing x z)
  freed_agrees view z below none a =
      on_test (λ (w : View). Agrees c id_of f m w (clearing x z)) (is_freed_by view.promise (id_of z.site) z.term) _ _
      (λ test. record {
        up = a.up;
        term = a.term;
        bound = a.bound;
        promise = sym (cleared_so true test);
        abstain = a.abstain;
        within = record { bound_below = a.within.bound_below; promise_below = cleared_within c.members x.promise z.site z.term a.within.promise_below };
        kept = a.kept;
        round = a.round;
        tried = nothing_waits _ view.waiting none;
        asked = nothing_waits _ view.waiting none;
        active = a.active;
        repeated = a.repeated;
      })
      (λ test. record {
        up = a.up;
        term = a.term;
        bound = a.bound;
        promise = a.promise ∙ sym (cleared_so false test);
        abstain = a.abstain;
        within = record { bound_below = a.within.bound_below; promise_below = cleared_within c.members x.promise z.site z.term a.within.promise_below };
        kept = a.kept;
        round = a.round;
        tried = nothing_waits _ view.waiting none;
        asked = nothing_waits _ view.waiting none;
        active = a.active;
        repeated = a.repeated;
      })
    where
      cleared_so : (b : Bool) → is_freed_by view.promise (id_of z.site) z.term ≡ b
          → promise_in id_of (cleared x.promise z.site z.term) ≡ cond b None (promise_in id_of x.promise)
      cleared_so b test =
          freed_promise c.members id_of ids.apart x.promise z.site z.term below a.within.promise_below
          ∙ ap (λ (d : Bool). cond d None (promise_in id_of x.promise)) (sym (ap (λ (o : Option ViewPromise). is_freed_by o (id_of z.site) z.term) a.promise) ∙ test)

  unmanaged_same : (view : View) (reason reading : ℕ) → view.waiting ≡ None → SameParts view (given_back (seat c id_of m x.second x.phase setup) view reason reading)
  unmanaged_same view reason reading none =
      on_cond (λ (w : View). SameParts view w) (reason == LOCF) _ _
      (on_cond (λ (w : View). SameParts view w) (is_follower view.role && c.is_site m) _ view
      (record { term = refl; bound = refl; promise = refl; abstain = refl; kept = refl; round = inl refl; role = λ h. h; repeated = λ h. (h, refl); waiting = none }) (unchanged view none))
      (on_cond (λ (w : View). SameParts view w) (is_follower view.role && view.repeat == 0) _ _
      (record { term = refl; bound = refl; promise = refl; abstain = refl; kept = refl; round = inl refl; role = λ h. h; repeated = λ h. (h, refl); waiting = none })
      (record { term = refl; bound = refl; promise = refl; abstain = refl; kept = refl; round = inl refl; role = λ h. h; repeated = λ h. (h, refl); waiting = none }))

  revoked_same : (view : View) (site : MemberId) (term reason reading : ℕ) → view.waiting ≡ None
      → SameParts (freed view site term) (revoked (seat c id_of m x.second x.phase setup) view site term reason reading)
  revoked_same view site term reason reading none =
      let free : View = freed view site term in
      let hidden : View = record free { shown = None } in
      let still : free.waiting ≡ None = on_cond (λ (w : View). w.waiting ≡ None) (is_freed_by view.promise site term) _ view none none in
      on_cond (λ (w : View). SameParts free w) (nat_le view.term term && is_owner view.shown site && not (reason == SPLT)) _ _
      (then_same free hidden (given_back (seat c id_of m x.second x.phase setup) hidden reason reading)
      (record { term = refl; bound = refl; promise = refl; abstain = refl; kept = refl; round = inl refl; role = λ h. h; repeated = λ h. (h, refl); waiting = still })
      (unmanaged_same hidden reason reading still))
      (unchanged free still)

  -- a revocation that is heard: a clearing
  pub hears_release : (view : View) (reason : ℕ) (z : Release) → z.site < c.members → view.waiting ≡ None → Agrees c id_of f m view x → Has f.releases z
      → LeadsToOutcome c id_of now m f x (quiet (revoked (seat c id_of m x.second x.phase setup) view (id_of z.site) z.term reason x.reading))
  hears_release view reason z below none a fact = record {
    steps = Clears z ∷ [];
    starts_so = (tt, tt);
    run = (record { up = a.up; fact = fact }, tt);
    reached = record {
      agrees = agrees_same c id_of f m (freed view (id_of z.site) z.term) _ (clearing x z) (revoked_same view (id_of z.site) z.term reason x.reading none) (freed_agrees view z below none a);
      said = tt;
      may_now = refl;
      same_second = refl;
      same_phase = refl;
      same_reading = refl;
      same_at = refl;
    };
    adds = adds_none (mark_of now m x) f;
  }
