-- A timer whose deadlines are far away: nothing is due, and no slot is looked at.
use Rattle.std.proofs.Common.{◌≡◌, ◌≢◌, ℕ, suc, Bool, false, cond, ◌+◌, ◌-◌, ◌/◌, ◌%◌, ◌<◌, ◌≤◌, List, [], ◌∷◌, length, get_or, refl, ◌∙◌, ap, arith}
use Rattle.std.specs.Prelude.{Option, Some, None, nat_eq, nat_le}
use Rattle.std.specs.List.{count_by, list_any, range_with_len}
use Rattle.std.proofs.lemmas.Bool.Decides.{nat_tests}
use Rattle.std.proofs.lemmas.List.Sums.{sum_by-cons}
use Rattle.std.proofs.lemmas.List.Folds.{list_any_none}
use Rattle.std.proofs.lemmas.List.FromFn.{get_or-range_with_len, length-range_with_len}
use Rattle.booth_chain.specs.Wheel.{Timer}
use Rattle.booth_chain.specs.Buckets.{is_in_reach, most_steps}
use Rattle.trials.specs.Far.{AreFar}

le_no : (a b : ℕ) → b < a → nat_le a b ≡ false
le_no a b lt = grind (arith, nat_tests)

eq_no : (a b : ℕ) → a ≢ b → nat_eq a b ≡ false
eq_no a b ne = grind (arith, nat_tests)

-- the test of a bucket against that of the far deadline
in_last_bucket : ℕ → Bool
in_last_bucket span = nat_eq 511 (span % 512)

out_of_reach : (swept now : ℕ) → swept ≤ now → now < 65408 → is_in_reach swept now (Some 65601408) ≡ false
unfolding in_last_bucket
out_of_reach swept now order early =
    let late = le_no 65601408 swept (omega arith) in
    let many = now / 128 - swept / 128 + 1 in
    let spans = range_with_len (swept / 128) many in
    let none : list_any in_last_bucket spans ≡ false = list_any_none in_last_bucket spans (λ i d below.
    let lt : i < many = omega (arith, below, length-range_with_len (swept / 128) many) in
    let read = get_or-range_with_len (swept / 128) many i d lt in
    let other : 511 ≢ (swept / 128 + i) % 512 = λ e. omega arith in
    ap in_last_bucket read ∙ eq_no 511 ((swept / 128 + i) % 512) other) in
    rw late none

abbrev one_if : Bool → ℕ
one_if b = cond b 1 0

count_none : (p : Option ℕ → Bool) (ds : List (Option ℕ)) → ((s : ℕ) → s < length ds → p (get_or ds s None) ≡ false) → count_by p ds ≡ 0
count_none p [] none = refl
count_none p (d ∷ rest) none =
    let head : one_if (p d) ≡ 0 = ap one_if (none 0 (omega arith)) in
    omega (arith, head, sum_by-cons (λ o. cond (p o) 1 0) d rest, count_none p rest (λ s lt. none (suc s) (omega arith)))

pub few_steps : (timer : Timer) (now : ℕ) → AreFar timer.deadlines → timer.swept ≤ now → now < 65408 → most_steps timer now + timer.swept / 128 ≤ 1 + now / 128
few_steps timer now far order early =
    let none = count_none (is_in_reach timer.swept now) timer.deadlines (λ s lt. ap (is_in_reach timer.swept now) (far s lt) ∙ out_of_reach timer.swept now order early) in
    omega (arith, none)
