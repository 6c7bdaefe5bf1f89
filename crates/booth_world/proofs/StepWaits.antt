-- The time to wait before the step after the next one.
use Rattle.std.proofs.Common.{ℕ, ◌+◌, ◌-◌, ◌*◌, ◌≤◌, arith, mul-le-mul_left}
use Rattle.std.specs.Prelude.{slice_index}
use Rattle.booth_base.specs.Times.{promise_of}
use Rattle.booth_world.specs.Lists.{WaitIsEnough}

pub wait_is_enough : WaitIsEnough
wait_is_enough ticks clock times wait early late is order within enough counted =
    by_parts (promise_of times + 1) (wait - 1) (slice_index clock late - slice_index clock early) (late - early) enough (omega (arith, enough)) (omega (arith, counted, enough))
    (is.not_fast early late order within)
  where
    by_parts : (lasts w d t : ℕ) → 1001000 * lasts ≤ 999000 * w → 0 ≤ w → w + 1 ≤ d → ticks * (1000000 * d) ≤ 1001000 * t + ticks * 1000000
        → 1000000 * (ticks * lasts) ≤ 999000 * t
    by_parts lasts w d t long some rise fast =
        let one = mul-le-mul_left ticks long in
        let two = mul-le-mul_left ticks rise in
        omega (arith, one, two, fast)
