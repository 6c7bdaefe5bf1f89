-- How a run of calls on a disk goes on: what a crash at any moment of it leaves.
use Rattle.std.proofs.Common.{◌≡◌, refl, sym, subst, inl, inr, ⊎_elim, ℕ, List, arith}
use Rattle.booth_rec.specs.Disk.{SameOutside, Elapses, LeavesOnly}

-- the same file differs nowhere
pub same_outside : (at n : ℕ) (old new : List ℕ) → new ≡ old → SameOutside at n old new
same_outside at n old new same =
    subst (λ (f : List ℕ). SameOutside at n old f) (sym same) (record { before = λ i below. refl; behind = λ i past. refl })

module _ {D : Type 0} (moment : D → ℕ) (left_since : D → ℕ → List ℕ → Type 0) where
  -- before the first call
  pub started : (old : D) (P : List ℕ → Type 0) → ((c : List ℕ) → left_since old (moment old) c → P c) → LeavesOnly moment left_since old old P
  started old P here = record { later = omega arith; each = here; earlier = λ t c le left. inl left }

  -- one call more, after which a crash leaves what has P
  pub goes_on : (old mid new : D) (P may_leave : List ℕ → Type 0) → LeavesOnly moment left_since old mid P → Elapses (moment mid) (moment new) (left_since mid) (left_since new) may_leave
      → ((c : List ℕ) → may_leave c → P c) → LeavesOnly moment left_since old new P
  goes_on old mid new P may_leave so_far time here = record {
    later = omega (arith, so_far.later, time.later);
    each = λ c left. ⊎_elim (so_far.each c) (here c) (time.nothing_else (moment old) c so_far.later left);
    earlier = λ t c le left. ⊎_elim (so_far.earlier t c le) (λ now. inr (here c now)) (time.nothing_else t c (omega (arith, le, so_far.later)) left);
  }

  -- a crash leaves what has Q, where what has P has Q
  pub weaker : (old new : D) (P Q : List ℕ → Type 0) → ((c : List ℕ) → P c → Q c) → LeavesOnly moment left_since old new P → LeavesOnly moment left_since old new Q
  weaker old new P Q gives run = record {
    later = run.later;
    each = λ c left. gives c (run.each c left);
    earlier = λ t c le left. ⊎_elim (λ was. inl was) (λ now. inr (gives c now)) (run.earlier t c le left);
  }

  -- one run after another
  pub then_run : (old mid new : D) (P : List ℕ → Type 0) → LeavesOnly moment left_since old mid P → LeavesOnly moment left_since mid new P → LeavesOnly moment left_since old new P
  then_run old mid new P first second = record {
    later = omega (arith, first.later, second.later);
    each = λ c left. ⊎_elim (first.each c) (λ now. now) (second.earlier (moment old) c first.later left);
    earlier = λ t c le left. ⊎_elim (first.earlier t c le) (λ now. inr now) (second.earlier t c (omega (arith, le, first.later)) left);
  }
