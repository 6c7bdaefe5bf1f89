-- Cases of a test, and what tests of numbers say.
use Rattle.std.proofs.Common.{◌≡◌, ◌≢◌, ℕ, ◌<◌, Bool, true, false, cond, ◌&&◌, arith, refl}
use Rattle.std.proofs.lemmas.Bool.Decides.{nat_tests}
use Rattle.std.specs.Prelude.{nat_lt, ◌==◌}

pub when_true : {A : Type 0} (P : A → Type 0) (b : Bool) (x y : A) → b ≡ true → P x → P (cond b x y)
when_true P true x y e p = p
when_true P false x y e p = absurd (cc)

pub when_false : {A : Type 0} (P : A → Type 0) (b : Bool) (x y : A) → b ≡ false → P y → P (cond b x y)
when_false P true x y e p = absurd (cc)
when_false P false x y e p = p

pub first_true : (a b : Bool) → a && b ≡ true → a ≡ true
first_true true b e = refl
first_true false b e = absurd (cc)

pub both : (a b : Bool) → a ≡ true → b ≡ true → a && b ≡ true
both true b e f = f
both false b e f = absurd (cc)

pub is_number : (m n : ℕ) → m ≡ n → m == n ≡ true
is_number m n e = grind (arith, nat_tests)

pub is_other : (m n : ℕ) → m ≢ n → m == n ≡ false
is_other m n e = grind (arith, nat_tests)

pub is_below : (m n : ℕ) → m < n → nat_lt m n ≡ true
is_below m n e = grind (arith, nat_tests)
