-- Bytes that are xored one after another, and what no difference means.
use Rattle.std.proofs.Common.{◌≡◌, ◌+◌, ℕ, zero, suc, List, [], ◌∷◌, ◌++◌, length, map, take, drop, fold, set, get_or, bit_or, bit_xor, refl, ap, sym, ◌∙◌, arith}
use Rattle.std.specs.List.{zip}
use Rattle.std.specs.Int.Bits.{xor_assoc, xor_self, xor_zero_l, xor_zero_r, or_zero_l}
use Rattle.std.proofs.lemmas.Nat.{le_or_l, le_or_r}

-- one more byte of a list is mapped in its place
pub mapped_more : (f : ℕ → ℕ) (xs : List ℕ) (i : ℕ) →
    set (map f (take i xs) ++ drop i xs) i (f (get_or (map f (take i xs) ++ drop i xs) i 0)) ≡ map f (take (i + 1) xs) ++ drop (i + 1) xs
mapped_more f [] zero = refl
mapped_more f [] (suc i) = let e : suc i + 1 ≡ suc (i + 1) = omega arith in rw e refl
mapped_more f (x ∷ xs) zero = refl
mapped_more f (x ∷ xs) (suc i) =
    let e : suc i + 1 ≡ suc (i + 1) = omega arith in
    rw e (ap (λ ys. f x ∷ ys) (mapped_more f xs i))

xor_again : (a b : ℕ) → bit_xor (bit_xor a b) b ≡ a
xor_again a b = rw (xor_assoc a b b, xor_self b) (xor_zero_r a)

xored_zero : (a b : ℕ) → bit_xor a b ≡ 0 → a ≡ b
xored_zero a b e = sym (xor_again a b) ∙ (ap (λ n. bit_xor n b) e ∙ xor_zero_l b)

either_zero : (a b : ℕ) → bit_or a b ≡ 0 → (a ≡ 0) × (b ≡ 0)
either_zero a b e = (omega (arith, le_or_l a b), omega (arith, le_or_r a b))

-- what is found where two lists differ
abbrev pub found : ℕ → List ℕ → List ℕ → ℕ
found n xs ys = fold (λ (m : ℕ) (p : ℕ × ℕ). bit_or m (bit_xor p.0 p.1)) n (zip xs ys)

pub none_found : (n : ℕ) (xs ys : List ℕ) → length xs ≡ length ys → found n xs ys ≡ 0 → (n ≡ 0) × (xs ≡ ys)
none_found n [] [] long none = (none, refl)
none_found n [] (y ∷ ys) long none = absurd (omega arith)
none_found n (x ∷ xs) [] long none = absurd (omega arith)
none_found n (x ∷ xs) (y ∷ ys) long none =
    let rest = none_found (bit_or n (bit_xor x y)) xs ys (omega arith) none in
    let first = either_zero n (bit_xor x y) rest.0 in
    (first.0, rw (xored_zero x y first.1, rest.1) refl)

pub found_none : (xs : List ℕ) → found 0 xs xs ≡ 0
found_none [] = refl
found_none (x ∷ xs) = ap (λ m. found (bit_or 0 m) xs xs) (xor_self x) ∙ (ap (λ m. found m xs xs) (or_zero_l 0) ∙ found_none xs)
