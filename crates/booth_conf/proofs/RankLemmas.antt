-- Fewer sites come before a member than there are members.
use Rattle.std.proofs.Common.{◌≡◌, ◌<◌, ◌≤◌, ◌+◌, ℕ, zero, suc, Bool, true, false, cond, count_by, List, [], ◌∷◌, length, arith}
use Rattle.std.specs.List.{enumerate_from, slice_get}
use Rattle.std.specs.Option.{IsSomeAnd}
use Rattle.std.proofs.lemmas.Bool.Decides.{nat_tests}
use Rattle.std.proofs.lemmas.List.Sums.{count_by-le-length, sum_by-cons}
use Rattle.std.proofs.lemmas.List.FromFn.{length-enumerate_from}
use Rattle.booth_conf.specs.declared.members.Member.{Member}
use Rattle.booth_conf.specs.Lookups.{comes_before, rank_of}

at_most_one : (b : Bool) → cond b 1 0 ≤ 1
at_most_one true = omega arith
at_most_one false = omega arith

nothing : (b : Bool) → b ≡ false → cond b 1 0 ≤ 0
nothing true e = cc
nothing false e = omega arith

not_before_itself : (ws : List ℕ) (i n : ℕ) (m : Member) → n ≡ i → comes_before ws i (n, m) ≡ false
not_before_itself ws i n m e = rw e (grind (arith, nat_tests))

count_cons : {X : Type 0} (p : X → Bool) (x : X) (xs : List X) →
    count_by p (x ∷ xs) ≡ cond (p x) 1 0 + count_by p xs
count_cons p x xs = sum_by-cons (λ y. cond (p y) 1 0) x xs

counted_from : (P : Member → Type 0) (ms : List Member) (ws : List ℕ) (n k i : ℕ)
    → IsSomeAnd (slice_get ms k) P → n + k ≡ i → count_by (comes_before ws i) (enumerate_from n ms) < length ms
counted_from P [] ws n k i some e = absurd some
counted_from P (m ∷ ms) ws n zero i some e =
    let same : n ≡ i = omega (arith, e) in
    let others = count_by-le-length (comes_before ws i) (enumerate_from (n + 1) ms) in
    let len = length-enumerate_from (n + 1) ms in
    let itself = nothing (comes_before ws i (n, m)) (not_before_itself ws i n m same) in
    let all = count_cons (comes_before ws i) (n, m) (enumerate_from (n + 1) ms) in
    omega (arith, all, others, len, itself)
counted_from P (m ∷ ms) ws n (suc k) i some e =
    let others = counted_from P ms ws (n + 1) k i some (omega (arith, e)) in
    let one = at_most_one (comes_before ws i (n, m)) in
    let all = count_cons (comes_before ws i) (n, m) (enumerate_from (n + 1) ms) in
    omega (arith, all, others, one)

pub rank_below : (P : Member → Type 0) (ms : List Member) (ws : List ℕ) (i most : ℕ)
    → IsSomeAnd (slice_get ms i) P → length ms ≤ most → rank_of ms ws i < most
rank_below P ms ws i most some few =
    let below = counted_from P ms ws 0 i i some (omega arith) in
    omega (arith, below, few)
