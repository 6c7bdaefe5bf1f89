-- The clocks of a simulation drift within their bounds.
use Rattle.std.proofs.Common.{◌≡◌, ℕ, ◌+◌, ◌-◌, ◌*◌, ◌^◌, ◌<◌, ◌≤◌, Bool, true, false, length, arith, if◌then◌else◌}
use Rattle.std.specs.Prelude.{slice_index, map, ◌/◌, ◌%◌, ◌==◌}
use Rattle.std.specs.List.{range_with_len}
use Rattle.std.proofs.lemmas.List.FromFn.{length-map-range_with_len, get_or-map-range_with_len}
use Rattle.booth_node.specs.Clock.{IsClock}
use Rattle.booth_sim.specs.Simulation.{clock_of}

-- what a list of the values of f reads
pub reads_value : (f : ℕ → ℕ) (n t : ℕ) → t < length (map f (range_with_len 0 n)) → slice_index (map f (range_with_len 0 n)) t ≡ f t
reads_value f n t below =
    let short = length-map-range_with_len f 0 n in
    get_or-map-range_with_len f 0 n t t 0 (omega (arith, below, short)) (omega arith)

-- a list of the values of f is a clock, where f drifts so
is_clock : (f : ℕ → ℕ) (n : ℕ) → ((s t : ℕ) → s ≤ t → t < n → f s ≤ f t)
    → ((s t : ℕ) → s ≤ t → t < n → 999000 * (t - s) ≤ 1000000 * (f t - f s) + 1000000)
    → ((s t : ℕ) → s ≤ t → t < n → 1000000 * (f t - f s) ≤ 1001000 * (t - s) + 1000000)
    → ((t : ℕ) → t < n → f t < 2 ^ 62)
    → IsClock 1 (map f (range_with_len 0 n))
is_clock f n rises slow fast small = record {
  rising = record {
    rises = λ s t le below. let b : t < n = short t below in
        let x = at s (omega (arith, le, below)) in let y = at t below in let g = rises s t le b in omega (arith, x, y, g);
    small = λ t below. let b : t < n = short t below in
        let y = at t below in let g = small t b in omega (arith, y, g);
  };
  not_slow = λ s t le below. let b : t < n = short t below in
      let x = at s (omega (arith, le, below)) in let y = at t below in let g = slow s t le b in omega (arith, x, y, g);
  not_fast = λ s t le below. let b : t < n = short t below in
      let x = at s (omega (arith, le, below)) in let y = at t below in let g = fast s t le b in omega (arith, x, y, g);
}
  where
    short : (t : ℕ) → t < length (map f (range_with_len 0 n)) → t < n
    short t below = let e = length-map-range_with_len f 0 n in omega (arith, below, e)

    at : (t : ℕ) → t < length (map f (range_with_len 0 n)) → slice_index (map f (range_with_len 0 n)) t ≡ f t
    at t below = reads_value f n t below

true_clock : (n : ℕ) → n ≤ 2 ^ 36 → IsClock 1 (map (λ (t : ℕ). t * 1000000 / 1000000) (range_with_len 0 n))
true_clock n few = is_clock (λ (t : ℕ). t * 1000000 / 1000000) n
    (λ s t le b. omega (arith, le)) (λ s t le b. omega (arith, le)) (λ s t le b. omega (arith, le)) (λ t b. omega (arith, b, few))

fast_clock : (n : ℕ) → n ≤ 2 ^ 36 → IsClock 1 (map (λ (t : ℕ). t * 1001000 / 1000000) (range_with_len 0 n))
fast_clock n few = is_clock (λ (t : ℕ). t * 1001000 / 1000000) n
    (λ s t le b. omega (arith, le)) (λ s t le b. omega (arith, le)) (λ s t le b. omega (arith, le)) (λ t b. omega (arith, b, few))

slow_clock : (n : ℕ) → n ≤ 2 ^ 36 → IsClock 1 (map (λ (t : ℕ). t * 999000 / 1000000) (range_with_len 0 n))
slow_clock n few = is_clock (λ (t : ℕ). t * 999000 / 1000000) n
    (λ s t le b. omega (arith, le)) (λ s t le b. omega (arith, le)) (λ s t le b. omega (arith, le)) (λ t b. omega (arith, b, few))

pub clock_drifts : (span place : ℕ) → span ≤ 2 ^ 36 → IsClock 1 (clock_of span place)
clock_drifts span place few = by_tests (place % 3 == 0) (place % 3 == 1)
  where
    by_tests : (b c : Bool)
        → IsClock 1 (map (λ (t : ℕ). t * (if b then 1000000 else if c then 1001000 else 999000) / 1000000) (range_with_len 0 span))
    by_tests true c = true_clock span few
    by_tests false true = fast_clock span few
    by_tests false false = slow_clock span few
