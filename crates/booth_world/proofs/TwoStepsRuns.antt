-- The run in which a later holder has a smaller term, after two steps.
use Rattle.std.proofs.Common.{◌≡◌, ◌≢◌, ℕ, zero, suc, ◌+◌, ◌<◌, ◌≤◌, List, [], ◌∷◌, refl, subst, inl, inr, arith}
use Rattle.std.specs.Prelude.{Some, None, slice_index}
use Rattle.std.specs.Option.{ForSome}
use Rattle.booth_node.specs.Clock.{IsClock}
use Rattle.booth_world.specs.Facts.{Has, Round, Answer, MajoritiesMeet}
use Rattle.booth_world.specs.States.{KeptRecord, Pledge, Promise, opening, HasClocks, IsTimed, HasPhases, IsWithin}
use Rattle.booth_world.specs.Rounds.{KeepsAnswer}
use Rattle.booth_world.specs.Steps.{IsRun, world_of}
use Rattle.booth_world.specs.TwoSteps.{true_clock, seats_of, has, two, round_of, promise_of_own, early, late, SmallerTermTwoStepsOn}
use Rattle.booth_world.proofs.Lists.{none_is, some_same}
use Rattle.booth_world.proofs.ExampleRuns.{below_eight, only, just, no_promise, nobody}
use Rattle.booth_world.proofs.StabilityLemmas.{runs_join}

is_true : (t : ℕ) → t < 8 → slice_index true_clock t ≡ t
is_true = below_eight (λ (t : ℕ). slice_index true_clock t ≡ t) refl refl refl refl refl refl refl refl

true_is_clock : IsClock 1 true_clock
true_is_clock = record {
  not_slow = λ a b ab h. let x = is_true a (omega arith) in let y = is_true b (omega arith) in omega (arith, x, y, ab);
  not_fast = λ a b ab h. let x = is_true a (omega arith) in let y = is_true b (omega arith) in omega (arith, x, y, ab);
  rising = record {
    rises = λ a b ab h. let x = is_true a (omega arith) in let y = is_true b (omega arith) in omega (arith, x, y, ab);
    small = λ t h. let x = is_true t (omega arith) in omega (arith, x, h);
  };
}

two_timed : IsTimed two
two_timed = record { ticking = omega arith; clocks = λ m h. true_is_clock }

two_clocks : HasClocks two
two_clocks = record {
  some = omega arith;
  long = λ m h. refl;
  rising = λ m h. true_is_clock.rising;
  begins = λ m. record {
    over = λ l e. absurd (none_is l e);
    first = λ first. absurd (cc);
    named = λ pledge e. subst (λ (y : Pledge). IsWithin 2 y.bound y.promise) (some_same _ pledge e) (record { bound_below = λ s e. absurd (none_is s e); promise_below = λ p e. absurd (none_is p e) });
    rested = λ pledge e. subst (λ (y : Pledge). ForSome y.promise (λ (promise : Promise). (promise.term ≤ ((two.begins m).kept).term) × (y.abstain ≤ slice_index true_clock 0))) (some_same _ pledge e) (λ p e. absurd (none_is p e));
  };
}

meets : (p : ℕ) → MajoritiesMeet 2 (seats_of p) (seats_of (p + 1))
meets zero = omega arith
meets (suc zero) = omega arith
meets (suc (suc p)) =
    let same : suc (suc (suc p)) ≡ suc (suc p) + 1 = omega arith in
    subst (λ (q : ℕ). MajoritiesMeet 2 (seats_of (suc (suc p))) (seats_of q)) same (omega arith)

named_so : (p place : ℕ) → place < (seats_of p).size → ((seats_of p).number place < 2) × ((seats_of p).place ((seats_of p).number place) ≡ place)
named_so zero place l = (omega arith, omega arith)
named_so (suc zero) place l = (omega arith, refl)
named_so (suc (suc p)) place l = (omega arith, omega arith)

two_phases : HasPhases two
two_phases = record {
  seats = record { named = named_so; meet = meets };
  lasting = λ p q near. omega arith;
  covered = λ p. omega arith;
  in_order = λ p. omega arith;
  spaced = λ p q apart. omega arith;
}

answered_by : (f : List Answer) (r : Round) (s : ℕ) (a : Answer) → a.member ≡ s → a.round ≡ r
    → (m : ℕ) → Has (s ∷ []) m → (x : Answer) × (Has (a ∷ f) x) × (x.member ≡ m) × (x.round ≡ r)
answered_by f r s a ea ra = only (λ (m : ℕ). (x : Answer) × (Has (a ∷ f) x) × (x.member ≡ m) × (x.round ≡ r)) s (a, inl refl, ea, ra)

keeps_it : (m term time phase reading : ℕ) → reading + 3 ≤ time + 3 → (k : KeptRecord)
    → Has (has term None (Some m) (Some (promise_of_own m term time)) ∷ []) k → KeepsAnswer two phase reading (round_of m term time phase) k
keeps_it m term time phase reading late = only (λ (k : KeptRecord). KeepsAnswer two phase reading (round_of m term time phase) k) (has term None (Some m) (Some (promise_of_own m term time)))
    (record { pledge = record { bound = Some m; promise = Some (promise_of_own m term time); abstain = 0 }; second = refl; own_term = refl; bound = refl; given = promise_of_own m term time; stands = refl; to = refl; for_term = refl; long = omega (arith, late) })

early_runs : IsRun two (opening two) early
early_runs = (
  (omega arith, tt, tt),
  (
    (omega arith, record { down = refl; read = inl (inl refl); on = λ e. inl (inl refl); stays = λ e. e }, (omega arith, omega arith, (omega arith, refl))),
    (
      (omega arith, record { up = refl; above = omega arith }, λ up. omega arith),
      (
        (omega arith, record { up = refl; keeper = inl refl; own_term = refl; pledge = refl; lease = tt }, λ up. omega arith),
        (
          (omega arith, record { up = refl; site = refl; kept = only (λ (k : KeptRecord). k.term ≡ 5) _ refl; unbound = nobody 0; no_round = λ r n. absurd n; no_release = λ r n. absurd n }, λ up. omega arith),
          (
            (omega arith, record { up = refl; to_site = refl; below = omega arith; rested = omega arith; unpromised = no_promise 0 0; unbound = inr (refl, just 0) }, λ up. omega arith),
            (
              (omega arith, record { up = refl; keeper = inl refl; own_term = refl; pledge = refl; lease = tt }, λ up. omega arith),
              (
                (omega arith, record { up = refl; fact = inl refl; own_term = refl; bound = refl; stands = refl; to = refl; for_term = refl; long = omega arith; later = omega arith; kept = λ second. keeps_it 0 5 0 0 0 (omega arith) }, λ up. omega arith),
                (
                  (omega arith, record { up = refl; open_round = refl; majority = omega arith; answered = answered_by [] (round_of 0 5 0 0) 0 _ refl refl; soon = omega arith }, λ up. omega arith),
                  (
                    (omega arith, record { up = refl; keeper = inl refl; own_term = refl; pledge = refl; lease = inr (record { gained = record { round = round_of 0 5 0 0; at = 0; answers = 0 ∷ [] }; fact = inl refl; open_round = refl; same = refl }) }, λ up. omega arith),
                    tt,
                  ),
                ),
              ),
            ),
          ),
        ),
      ),
    ),
  ),
)

not_zero : zero ≡ suc zero → ⊥
not_zero e = cc

late_runs : IsRun two (world_of two early) late
late_runs = (
  record { later = omega arith; within = omega arith },
  (
    (omega arith, tt, tt),
    (
      (omega arith, record { down = refl; read = inl (inl refl); on = λ e. inl (inl refl); stays = λ e. e }, (omega arith, omega arith, (omega arith, refl))),
      (
        (omega arith, record { up = refl; above = omega arith }, λ up. omega arith),
        (
          (omega arith, record { up = refl; keeper = inl refl; own_term = refl; pledge = refl; lease = tt }, λ up. omega arith),
          (
            (omega arith, record { up = refl; site = refl; kept = only (λ (k : KeptRecord). k.term ≡ 1) _ refl; unbound = nobody 1; no_round = only (λ (r : Round). r.site ≡ 1 → r.term ≢ 1) (round_of 0 5 0 0) (λ e. absurd (not_zero e)); no_release = λ r n. absurd n }, λ up. omega arith),
            (
              (omega arith, record { up = refl; to_site = refl; below = omega arith; rested = omega arith; unpromised = no_promise 1 6; unbound = inr (refl, just 1) }, λ up. omega arith),
              (
                (omega arith, record { up = refl; keeper = inl refl; own_term = refl; pledge = refl; lease = tt }, λ up. omega arith),
                (
                  (omega arith, record { up = refl; fact = inl refl; own_term = refl; bound = refl; stands = refl; to = refl; for_term = refl; long = omega arith; later = omega arith; kept = λ second. keeps_it 1 1 6 2 6 (omega arith) }, λ up. omega arith),
                  (
                    (omega arith, record { up = refl; open_round = refl; majority = omega arith; answered = answered_by (record { member = 0; round = round_of 0 5 0 0; reading = 0; at = 0 } ∷ []) (round_of 1 1 6 2) 1 _ refl refl; soon = omega arith }, λ up. omega arith),
                    (
                      (omega arith, record { up = refl; keeper = inl refl; own_term = refl; pledge = refl; lease = inr (record { gained = record { round = round_of 1 1 6 2; at = 6; answers = 1 ∷ [] }; fact = inl refl; open_round = refl; same = refl }) }, λ up. omega arith),
                      tt,
                    ),
                  ),
                ),
              ),
            ),
          ),
        ),
      ),
    ),
  ),
)

pub smaller_two_steps_on : SmallerTermTwoStepsOn
smaller_two_steps_on = record {
  clocks = two_clocks;
  timed = two_timed;
  phases = two_phases;
  run = runs_join two (opening two) early late early_runs late_runs;
  second = (tt, (refl, (tt, (tt, (tt, (tt, (tt, (tt, (tt, (tt, (tt, (tt, (refl, (tt, (tt, (tt, (tt, (tt, (tt, (tt, (tt, tt)))))))))))))))))))));
  first_holds = record { below = omega arith; may = inl refl; in_force = omega arith };
  second_holds = record { below = omega arith; may = inl refl; in_force = omega arith };
  smaller = omega arith;
}
