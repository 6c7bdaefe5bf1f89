-- A cluster with one configuration has phases.
use Rattle.std.proofs.Common.{◌≡◌, ℕ, ◌+◌, ◌-◌, ◌*◌, ◌<◌, ◌≤◌, Bool, true, false, refl, sym, ◌∙◌, subst, arith, mul-le-mul_left}
use Rattle.std.specs.Prelude.{◌||◌, ◌==◌, nat_lt}
use Rattle.std.proofs.lemmas.Bool.Decides.{nat_tests}
use native.Mathlib.Decide.{dec_le}
use native.Mathlib.Nat.{le_refl}
use Rattle.booth_base.specs.Times.{guard_of, promise_of}
use Rattle.booth_base.specs.declared.times.Times.{Times}
use Rattle.booth_rec.specs.declared.record.Lease.{Lease}
use Rattle.booth_world.specs.Facts.{Seats, is_seated, MajoritiesMeet}
use Rattle.booth_world.specs.States.{Phase, WorldState, opening, Cluster, HasPhases}
use Rattle.booth_world.specs.Steps.{world_of}
use Rattle.booth_world.specs.Held.{IsOfPhase}
use Rattle.booth_world.specs.OnePhase.{stride, only_phase, OnePhaseIsEnough}
use Rattle.booth_world.proofs.Invariant.{Good}
use Rattle.booth_world.proofs.Majority.{inject, all_count, first_of, second_of}
use Rattle.booth_world.proofs.WorldGood.{opening_good, run_good}

either_same : (a : Bool) → (a || a) ≡ true → a ≡ true
either_same true h = refl
either_same false h = h

-- no more members have a place than there are places
meets_itself : (n : ℕ) (seats : Seats) → MajoritiesMeet n seats seats
meets_itself n seats =
    let few = inject seats.size n (λ m. is_seated seats m || is_seated seats m) (λ k. true) seats.place seats.number
    (λ m below is.
    let seated = either_same (is_seated seats m) is in
    let a = first_of (nat_lt (seats.place m) seats.size) (seats.number (seats.place m) == m) seated in
    let b = second_of (nat_lt (seats.place m) seats.size) (seats.number (seats.place m) == m) seated in
    (grind (arith, nat_tests), refl, grind (arith, nat_tests))) in
    let all = all_count seats.size in
    omega (arith, few, all)

far_enough : (ticks span lasts p q : ℕ) → p + 2 ≤ q
    → 1000000 * (ticks * (lasts + 1)) ≤ 999000 * ((span + 2 * (ticks * (lasts + 1))) * q - ((span + 2 * (ticks * (lasts + 1))) * p + span))
far_enough ticks span lasts p q apart = by_parts (ticks * (lasts + 1)) (span + 2 * (ticks * (lasts + 1))) refl
  where
    by_parts : (x k : ℕ) → k ≡ span + 2 * x → 1000000 * x ≤ 999000 * (k * q - (k * p + span))
    by_parts x k is =
        let more : k * (p + 2) ≤ k * q = mul-le-mul_left k apart in
        omega (arith, more, is)

opens_on : (k p : ℕ) → k * p ≤ k * (p + 1)
opens_on k p = let more : p ≤ p + 1 = omega arith in mul-le-mul_left k more

one_has_phases :
    (c : Cluster) (seats : Seats) (times : Times) → c.phase ≡ only_phase c.span c.ticks seats times
    → ((place : ℕ) → place < seats.size → (seats.number place < c.members) × (seats.place (seats.number place) ≡ place))
    → HasPhases c
one_has_phases c seats times is named = record {
  seats = record {
    named = λ phase. subst (λ (f : ℕ → Phase). (place : ℕ) → place < (f phase).seats.size → ((f phase).seats.number place < c.members) × ((f phase).seats.place ((f phase).seats.number place) ≡ place)) (sym is) named;
    meet = λ phase. subst (λ (f : ℕ → Phase). MajoritiesMeet c.members (f phase).seats (f (phase + 1)).seats) (sym is) (meets_itself c.members seats);
  };
  lasting = λ phase other near. subst (λ (f : ℕ → Phase). (f phase).lasts ≤ promise_of (f other).times) (sym is) (le_refl _);
  covered = λ phase. subst (λ (f : ℕ → Phase). (f phase).times.expire + guard_of (f phase).times ≤ (f phase).lasts) (sym is) (omega arith);
  in_order = λ phase. subst (λ (f : ℕ → Phase). (f phase).opens ≤ (f (phase + 1)).opens) (sym is) (opens_on (stride c.span c.ticks times) phase);
  spaced = λ phase other apart. subst (λ (f : ℕ → Phase). 1000000 * (c.ticks * ((f phase).lasts + 1)) ≤ 999000 * ((f other).opens - (f phase).closes)) (sym is) (far_enough c.ticks c.span (promise_of times) phase other apart);
}

-- the phases after the first one open when the clocks have ended
opens_late : (span x phase : ℕ) → 0 < phase → span ≤ (span + 2 * x) * phase
opens_late span x phase some = let more : (span + 2 * x) * 1 ≤ (span + 2 * x) * phase = mul-le-mul_left (span + 2 * x) some in omega (arith, more)

-- a phase that has opened while the clocks run is the first one
first_phase :
    (c : Cluster) (seats : Seats) (times : Times) → c.phase ≡ only_phase c.span c.ticks seats times
    → (phase now : ℕ) → now < c.span → (c.phase phase).opens ≤ now → phase ≡ 0
first_phase c seats times is phase now within opens = by_test (dec_le phase 0)
  where
    opened : stride c.span c.ticks times * phase ≤ now
    opened = subst (λ (f : ℕ → Phase). (f phase).opens ≤ now) is opens

    never : (x : ℕ) → c.span ≤ x → x ≤ now → ⊥
    never x late early = omega (arith, late, early, within)

    by_test : Dec (phase ≤ 0) → phase ≡ 0
    by_test (yes l) = omega (arith, l)
    by_test (no n) =
        absurd (never (stride c.span c.ticks times * phase) (opens_late c.span (c.ticks * (promise_of times + 1)) phase (omega (arith, n))) opened)

gained_first :
    (c : Cluster) (seats : Seats) (times : Times) → c.phase ≡ only_phase c.span c.ticks seats times → (w : WorldState) → Good c w
    → (s : ℕ) (lease : Lease) (phase : ℕ) → IsOfPhase c w s lease phase → phase ≡ 0
gained_first c seats times is w good s lease phase in_phase =
    let round = in_phase.gained.round in
    let fact = good.facts.rounds round (good.facts.leases in_phase.gained in_phase.fact).round in
    sym in_phase.in_phase ∙ first_phase c seats times is round.phase w.now good.facts.within (let o = fact.opens in let p = fact.past in omega (arith, o, p))

pub one_phase_is_enough : OnePhaseIsEnough
one_phase_is_enough c seats times is named =
    let phases = one_has_phases c seats times is named in
    record {
      phases = phases;
      distance = λ phase. subst (λ (f : ℕ → Phase). (f phase).lasts - ((f phase).times.expire + guard_of (f phase).times) ≡ times.after) (sym is) (omega arith);
      first = λ clocks steps run. gained_first c seats times is (world_of c steps) (run_good c clocks phases (opening c) steps (opening_good c clocks) run);
    }
