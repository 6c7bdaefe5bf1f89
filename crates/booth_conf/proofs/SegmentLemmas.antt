-- Sixteen octets and eight segments.
use Rattle.std.proofs.Common.{◌≡◌, ◌<◌, ◌+◌, ◌*◌, ◌/◌, ◌%◌, ◌^◌, ℕ, zero, suc, Bool, true, false, List, [], ◌∷◌, length, get_or, refl, arith, ap}
use Rattle.std.specs.Net.Addr.{segments_of, octets_of}
use Rattle.std.proofs.NetLemmas.Arrays.{sixteen_items}

abbrev pub Below : ℕ → List ℕ → Type 0
Below most xs = (k : ℕ) → get_or xs k 0 < most

abbrev is_even : List ℕ → Bool
is_even [] = true
is_even (a ∷ []) = false
is_even (a ∷ b ∷ os) = is_even os

even_16 : (os : List ℕ) → length os ≡ 16 → is_even os ≡ true
even_16 os h = ap is_even (sixteen_items os h)

pairs : (os : List ℕ) → is_even os ≡ true → Below (2 ^ 8) os → octets_of (segments_of os) ≡ os
pairs [] e h = refl
pairs (a ∷ []) e h = cc
pairs (a ∷ b ∷ os) e h =
    let low : b < 256 = h 1 in
    let x : (a * 256 + b) / 256 ≡ a = omega arith in
    let y : (a * 256 + b) % 256 ≡ b = omega arith in
    rw (x, y, pairs os e (λ k. h (suc (suc k)))) refl

pub octets_again : (os : List ℕ) → length os ≡ 16 → Below (2 ^ 8) os →
    octets_of (segments_of os) ≡ os
octets_again os l h = pairs os (even_16 os l) h

pub segments_again : (xs : List ℕ) → segments_of (octets_of xs) ≡ xs
segments_again [] = refl
segments_again (s ∷ xs) = let x : s / 256 * 256 + s % 256 ≡ s = omega arith in rw (x, segments_again xs) refl

pub octets_below : (xs : List ℕ) → Below (2 ^ 16) xs → Below (2 ^ 8) (octets_of xs)
octets_below [] h k = omega arith
octets_below (s ∷ xs) h zero = let b : s < 65536 = h 0 in omega arith
octets_below (s ∷ xs) h (suc zero) = omega arith
octets_below (s ∷ xs) h (suc (suc k)) = octets_below xs (λ j. h (suc j)) k

pub octets_len : (xs : List ℕ) → length (octets_of xs) ≡ 2 * length xs
octets_len [] = refl
octets_len (s ∷ xs) = omega (arith, octets_len xs)

pub segments_below : (os : List ℕ) → Below (2 ^ 8) os → Below (2 ^ 16) (segments_of os)
segments_below [] h k = omega arith
segments_below (a ∷ []) h k = omega arith
segments_below (a ∷ b ∷ os) h zero = let x : a < 256 = h 0 in let y : b < 256 = h 1 in omega arith
segments_below (a ∷ b ∷ os) h (suc k) = segments_below os (λ j. h (suc (suc j))) k

pub segments_len : (os : List ℕ) → length os ≡ 16 → length (segments_of os) ≡ 8
segments_len os h = ap (λ xs. length (segments_of xs)) (sixteen_items os h)
