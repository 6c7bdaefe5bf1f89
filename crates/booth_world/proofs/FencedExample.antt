-- The run in which two hold may happen, and who holds in it.
use Rattle.std.proofs.Common.{◌≡◌, ◌≢◌, ℕ, zero, suc, ◌+◌, ◌<◌, ◌≤◌, List, [], ◌∷◌, ◌++◌, refl, ap, subst, inl, inr, arith, length}
use Rattle.std.specs.Prelude.{Some, slice_index}
use Rattle.std.specs.Option.{ForSome}
use native.Mathlib.Decide.{ℕ_discrete}
use Rattle.booth_world.specs.Facts.{Has, Round}
use Rattle.booth_node.specs.Clock.{IsRising}
use Rattle.booth_world.specs.Examples.{example_times}
use Rattle.booth_world.specs.OnePhase.{all_seats}
use Rattle.booth_world.specs.States.{KeptRecord, Promise, opening, HasClocks, HasPhases}
use Rattle.booth_world.specs.Rounds.{KeepsAnswer}
use Rattle.booth_world.specs.Steps.{IsRun, AreSecond, world_of}
use Rattle.booth_world.specs.Held.{Held}
use Rattle.booth_world.specs.FencingExample.{wild, wild_clock, steady, stepped, early_round, late_round, promise_for, pledged, won_with, first_part, second_part}
use Rattle.booth_world.proofs.Lists.{none_is, some_same}
use Rattle.booth_world.proofs.ExampleRuns.{below_eight, runs_append, only, just, no_promise, both, answer_of, not_one}
use Rattle.booth_world.proofs.OnePhaseLemmas.{one_phase_is_enough}
use Rattle.booth_world.proofs.WorldGood.{bare_well}

-- ---- clocks

-- true up to the last time, and no less then
Fits : List ℕ → ℕ → Type 0
Fits readings t = (t ≤ slice_index readings t) × (t < 7 → slice_index readings t ≡ t) × (slice_index readings t ≤ 100)

steady_fits : (t : ℕ) → t < 8 → Fits steady t
unfolding Fits
steady_fits = below_eight (λ (t : ℕ). (t ≤ slice_index steady t) × (t < 7 → slice_index steady t ≡ t) × (slice_index steady t ≤ 100))
    (omega arith, λ _. refl, omega arith) (omega arith, λ _. refl, omega arith) (omega arith, λ _. refl, omega arith) (omega arith, λ _. refl, omega arith)
    (omega arith, λ _. refl, omega arith) (omega arith, λ _. refl, omega arith) (omega arith, λ _. refl, omega arith) (omega arith, λ _. refl, omega arith)

stepped_fits : (t : ℕ) → t < 8 → Fits stepped t
unfolding Fits
stepped_fits = below_eight (λ (t : ℕ). (t ≤ slice_index stepped t) × (t < 7 → slice_index stepped t ≡ t) × (slice_index stepped t ≤ 100))
    (omega arith, λ _. refl, omega arith) (omega arith, λ _. refl, omega arith) (omega arith, λ _. refl, omega arith) (omega arith, λ _. refl, omega arith)
    (omega arith, λ _. refl, omega arith) (omega arith, λ _. refl, omega arith) (omega arith, λ _. refl, omega arith) (omega arith, λ l. absurd (omega (arith, l)), omega arith)

fits_rise : (readings : List ℕ) → length readings ≡ 8 → ((t : ℕ) → t < 8 → Fits readings t) → IsRising readings
unfolding Fits
fits_rise readings long fits = record {
  rises = λ a b ab h. by_order a b ab h (ℕ_discrete a b);
  small = λ t h. let x = (fits t (omega (arith, long, h))).2 in omega (arith, x);
}
  where
    by_order : (a b : ℕ) → a ≤ b → b < length readings → Dec (a ≡ b) → slice_index readings a ≤ slice_index readings b
    by_order a b ab h (yes e) = let s = ap (λ (t : ℕ). slice_index readings t) e in omega (arith, s)
    by_order a b ab h (no other) =
        let low : a < 7 = omega (arith, other, long, ab, h) in
        let x = (fits a (omega (arith, low))).1 low in
        let y = (fits b (omega (arith, long, h))).0 in
        omega (arith, x, y, ab)

pub wild_clocks : HasClocks wild
wild_clocks = record { some = omega arith; long = λ m h. by_member m; rising = λ m h. each m; begins = λ m. bare_well 3 _ }
  where
    by_member : (m : ℕ) → length (wild_clock m) ≡ 8
    by_member zero = refl
    by_member (suc zero) = refl
    by_member (suc (suc m)) = refl

    each : (m : ℕ) → IsRising (wild_clock m)
    each zero = fits_rise steady refl steady_fits
    each (suc zero) = fits_rise steady refl steady_fits
    each (suc (suc m)) = fits_rise stepped refl stepped_fits

-- ---- parts of conditions

over_promise : (q : Promise) (s reading : ℕ) → q.until ≤ reading → ForSome (Some q) (λ p. p.to ≢ s → p.until ≤ reading)
over_promise q s reading over p e other = subst (λ (y : Promise). y.until ≤ reading) (some_same q p e) over

-- the only record of a member has its answer
keeps : (reading : ℕ) (round : Round) (until : ℕ) → reading + 5 ≤ until → (k : KeptRecord) → Has (pledged round until ∷ []) k → KeepsAnswer wild 0 reading round k
keeps reading round until long = only (KeepsAnswer wild 0 reading round) (pledged round until) (record {
  pledge = record { bound = Some round.site; promise = Some (promise_for round until); abstain = 5 };
  second = refl;
  own_term = refl;
  bound = refl;
  given = promise_for round until;
  stands = refl;
  to = refl;
  for_term = refl;
  long = omega (arith, long);
})

-- ---- the run

first_runs : IsRun wild (opening wild) first_part
first_runs = (
  (omega arith, record { down = refl; read = inl (inl refl); on = λ e. inl (inl refl); stays = λ e. refl }, (omega arith, omega arith, (omega arith, refl))),
  (
    (omega arith, record { down = refl; read = inl (inl refl); on = λ e. inl (inl refl); stays = λ e. refl }, (omega arith, omega arith, (omega arith, refl))),
    (
      (omega arith, record { down = refl; read = inl (inl refl); on = λ e. inl (inl refl); stays = λ e. refl }, (omega arith, omega arith, (omega arith, refl))),
      (
        record { later = omega arith; within = omega arith },
        (
          (omega arith, tt, tt),
          (
            (omega arith, tt, tt),
            (
              (omega arith, tt, tt),
              (
                (omega arith, record { up = refl; above = omega arith }, λ up. omega arith),
                (
                  (omega arith, record { up = refl; to_site = refl; below = omega arith; rested = omega arith; unpromised = no_promise 0 6; unbound = inr (refl, λ b e. absurd (none_is b e)) }, λ up. omega arith),
                  (
                    (omega arith, record { up = refl; keeper = inl refl; own_term = refl; pledge = refl; lease = tt }, λ up. omega arith),
                    (
                      (omega arith, record { up = refl; site = refl; kept = only (λ (k : KeptRecord). k.term ≡ 1) (pledged early_round 11) refl; unbound = just 0; no_round = λ r n. absurd n; no_release = λ r n. absurd n }, λ up. omega arith),
                      (
                        (omega arith, record { up = refl; fact = inl refl; own_term = refl; bound = refl; stands = refl; to = refl; for_term = refl; long = omega arith; later = omega arith; kept = λ second. keeps 6 early_round 11 (omega arith) }, λ up. omega arith),
                        (
                          (omega arith, record { up = refl; to_site = refl; below = omega arith; rested = omega arith; unpromised = no_promise 0 6; unbound = inl (omega arith) }, λ up. omega arith),
                          (
                            (omega arith, record { up = refl; keeper = inr refl; own_term = refl; pledge = refl; lease = tt }, λ up. omega arith),
                            (
                              (omega arith, record { up = refl; fact = inl refl; own_term = refl; bound = refl; stands = refl; to = refl; for_term = refl; long = omega arith; later = omega arith; kept = λ second. keeps 6 early_round 11 (omega arith) }, λ up. omega arith),
                              (
                                (omega arith, record { up = refl; open_round = refl; majority = omega arith; answered = both [] early_round 0 (answer_of 0 early_round 6 6) (answer_of 2 early_round 6 6) refl refl refl refl; soon = omega arith }, λ up. omega arith),
                                (
                                  (omega arith, record { up = refl; keeper = inl refl; own_term = refl; pledge = refl; lease = inr (record { gained = record { round = early_round; at = 6; answers = 0 ∷ 2 ∷ [] }; fact = inl refl; open_round = refl; same = refl }) }, λ up. omega arith),
                                  tt,
                                ),
                              ),
                            ),
                          ),
                        ),
                      ),
                    ),
                  ),
                ),
              ),
            ),
          ),
        ),
      ),
    ),
  ),
)

second_runs : IsRun wild (world_of wild first_part) second_part
second_runs = (
  record { later = omega arith; within = omega arith },
  (
    (omega arith, tt, tt),
    (
      (omega arith, tt, tt),
      (
        (omega arith, tt, tt),
        (
          (omega arith, record { up = refl; above = omega arith }, λ up. omega arith),
          (
            (omega arith, record { up = refl; to_site = refl; below = omega arith; rested = omega arith; unpromised = no_promise 1 7; unbound = inr (refl, λ b e. absurd (none_is b e)) }, λ up. omega arith),
            (
              (omega arith, record { up = refl; keeper = inl refl; own_term = refl; pledge = refl; lease = tt }, λ up. omega arith),
              (
                (omega arith, record { up = refl; site = refl; kept = only (λ (k : KeptRecord). k.term ≡ 2) (pledged late_round 12) refl; unbound = just 1; no_round = only (λ (r : Round). r.site ≡ 1 → r.term ≢ 2) early_round (λ e. absurd (not_one e)); no_release = λ r n. absurd n }, λ up. omega arith),
                (
                  (omega arith, record { up = refl; fact = inl refl; own_term = refl; bound = refl; stands = refl; to = refl; for_term = refl; long = omega arith; later = omega arith; kept = λ second. keeps 7 late_round 12 (omega arith) }, λ up. omega arith),
                  (
                    (omega arith, record { up = refl; to_site = refl; below = omega arith; rested = omega arith; unpromised = over_promise (promise_for early_round 11) 1 100 (omega arith); unbound = inl (omega arith) }, λ up. omega arith),
                    (
                      (omega arith, record { up = refl; keeper = inr refl; own_term = refl; pledge = refl; lease = tt }, λ up. omega arith),
                      (
                        (omega arith, record { up = refl; fact = inl refl; own_term = refl; bound = refl; stands = refl; to = refl; for_term = refl; long = omega arith; later = omega arith; kept = λ second. keeps 100 late_round 105 (omega arith) }, λ up. omega arith),
                        (
                          (omega arith, record { up = refl; open_round = refl; majority = omega arith; answered = both (answer_of 2 early_round 6 6 ∷ answer_of 0 early_round 6 6 ∷ []) late_round 1 (answer_of 1 late_round 7 7) (answer_of 2 late_round 100 7) refl refl refl refl; soon = omega arith }, λ up. omega arith),
                          (
                            (omega arith, record { up = refl; keeper = inl refl; own_term = refl; pledge = refl; lease = inr (record { gained = record { round = late_round; at = 7; answers = 1 ∷ 2 ∷ [] }; fact = inl refl; open_round = refl; same = refl }) }, λ up. omega arith),
                            tt,
                          ),
                        ),
                      ),
                    ),
                  ),
                ),
              ),
            ),
          ),
        ),
      ),
    ),
  ),
)

pub wild_runs : IsRun wild (opening wild) (first_part ++ second_part)
wild_runs = runs_append wild (opening wild) first_part second_part first_runs second_runs

pub wild_phases : HasPhases wild
wild_phases = (one_phase_is_enough wild (all_seats 3) example_times refl (λ place below. (below, refl))).phases

pub wild_second : AreSecond (first_part ++ second_part)
wild_second = (refl, (refl, (refl, (tt, (tt, (tt, (tt, (tt, (tt, (tt, (tt, (tt, (tt, (tt, (tt, (tt, (tt, (tt, (tt, (tt, (tt, (tt, (tt, (tt, (tt, (tt, (tt, (tt, (tt, (tt, (tt, tt)))))))))))))))))))))))))))))))

pub first_holds : Held wild (world_of wild (first_part ++ second_part)) 0
first_holds = (won_with early_round 11, record { below = omega arith; may = inl refl; in_force = omega arith })

pub second_holds : Held wild (world_of wild (first_part ++ second_part)) 1
second_holds = (won_with late_round 12, record { below = omega arith; may = inl refl; in_force = omega arith })
