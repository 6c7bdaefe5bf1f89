-- Clocks that read the true time are good.
use Rattle.std.proofs.Common.{◌≡◌, ℕ, ◌<◌, ◌≤◌, List, sym, ap, subst, ◌∙◌, arith, length}
use Rattle.std.specs.Prelude.{slice_index}
use Rattle.std.specs.List.{range_with_len}
use Rattle.std.proofs.lemmas.List.FromFn.{length-range_with_len, get_or-range_with_len}
use Rattle.booth_node.specs.Clock.{IsClock}
use Rattle.booth_node.specs.World.{World}
use Rattle.booth_examples.specs.Laws.{HasGoodClocks}
use Rattle.booth_examples.specs.WorldExamples.{exact_clock}

reads_true : (n t : ℕ) → t < n → slice_index (range_with_len 0 n) t ≡ t
reads_true n t below = omega (arith, get_or-range_with_len 0 n t 0 below)

pub true_clock : (n : ℕ) → n ≤ 1000000 → IsClock 1 (range_with_len 0 n)
true_clock n few = record {
  rising = record {
    rises = λ a b ab h. omega (arith, reads_true n a (omega (arith, length-range_with_len 0 n)), reads_true n b (omega (arith, length-range_with_len 0 n)));
    small = λ t h. omega (arith, reads_true n t (omega (arith, length-range_with_len 0 n)), length-range_with_len 0 n);
  };
  not_slow = λ a b ab h. omega (arith, reads_true n a (omega (arith, length-range_with_len 0 n)), reads_true n b (omega (arith, length-range_with_len 0 n)));
  not_fast = λ a b ab h. omega (arith, reads_true n a (omega (arith, length-range_with_len 0 n)), reads_true n b (omega (arith, length-range_with_len 0 n)));
}

-- each member of the world has the exact clock
pub exact_clocks : (w : World) → w.ticks ≡ 1 → w.span ≡ 60000 → ((m : ℕ) → w.clock m ≡ exact_clock) → HasGoodClocks w
exact_clocks w ticks span exact = record {
  ticking = omega (arith, ticks);
  some = omega (arith, span);
  long = λ m below. ap length (exact m) ∙ length-range_with_len 0 60000 ∙ sym span;
  clocks = λ m below. subst (λ (n : ℕ). IsClock n (w.clock m)) (sym ticks)
      (subst (λ (c : List ℕ). IsClock 1 c) (sym (exact m)) (true_clock 60000 (omega arith)));
}
