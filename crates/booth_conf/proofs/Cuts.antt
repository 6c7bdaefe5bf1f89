-- Cutting a list where a test fails first.
use Rattle.std.proofs.Common.{◌≡◌, ◌≤◌, ◌<◌, Some, length, ℕ, suc, ◌+◌, Bool, true, false, not, List, [], ◌∷◌, ◌++◌, refl, arith, take, drop, cond, ap, ◌∙◌, sym}
use Rattle.std.specs.List.{list_all, prefix_len, position}
use Rattle.std.proofs.lemmas.List.Quantifiers.{position-Some}
use Rattle.std.proofs.lemmas.List.{take_rest}
use Rattle.std.proofs.lemmas.List.Sums.{prefix_len-le-length}
use Rattle.std.proofs.lemmas.Bool.Decides.{nat_tests}
use Rattle.booth_conf.specs.Grammar.{beyond}
use Rattle.booth_conf.specs.LineReader.{front}

drop_first : (n b : ℕ) (bs : List ℕ) → drop (1 + n) (b ∷ bs) ≡ drop n bs
drop_first n b bs = let e : 1 + n ≡ suc n = omega arith in rw e refl

take_first : (n b : ℕ) (bs : List ℕ) → take (1 + n) (b ∷ bs) ≡ b ∷ take n bs
take_first n b bs = let e : 1 + n ≡ suc n = omega arith in rw e refl

pub beyond_is : (p : ℕ → Bool) (xs : List ℕ) → beyond p xs ≡ drop (prefix_len p xs) xs
beyond_is p [] = refl
beyond_is p (b ∷ bs) = elim (p b) as (λ t. cond t (beyond p bs) (b ∷ bs) ≡ drop (cond t (1 + prefix_len p bs) 0) (b ∷ bs))
    [ true ↦ beyond_is p bs ∙ sym (drop_first _ b bs) | false ↦ refl ]

pub front_is : (p : ℕ → Bool) (xs : List ℕ) → front p xs ≡ take (prefix_len p xs) xs
front_is p [] = refl
front_is p (b ∷ bs) = elim (p b) as (λ t. cond t (b ∷ front p bs) [] ≡ take (cond t (1 + prefix_len p bs) 0) (b ∷ bs))
    [ true ↦ ap (λ xs. b ∷ xs) (front_is p bs) ∙ sym (take_first _ b bs) | false ↦ refl ]

pub prefix_within : (p : ℕ → Bool) (xs : List ℕ) → prefix_len p xs ≤ length xs
prefix_within p xs = prefix_len-le-length p xs

-- what stands after the bytes in front that pass a test, as a slice; and these bytes too
pub ruleset beyond_front = (beyond_is, prefix_within, take_rest)

pub ruleset both_sides = (beyond_is, front_is, prefix_within)

pub beyond_more : (p : ℕ → Bool) (xs ys : List ℕ) → list_all p xs ≡ true →
    beyond p (xs ++ ys) ≡ beyond p ys
beyond_more p [] ys h = refl
beyond_more p (x ∷ xs) ys h = grind (arith, nat_tests, beyond_more p xs ys)

pub front_more : (p : ℕ → Bool) (xs ys : List ℕ) → list_all p xs ≡ true →
    front p (xs ++ ys) ≡ xs ++ front p ys
front_more p [] ys h = refl
front_more p (x ∷ xs) ys h = grind (arith, nat_tests, front_more p xs ys)

pub front_beyond : (p : ℕ → Bool) (xs : List ℕ) → xs ≡ front p xs ++ beyond p xs
front_beyond p [] = refl
front_beyond p (x ∷ xs) = elim (p x) as (λ t. x ∷ xs ≡ cond t (x ∷ front p xs) [] ++ cond t (beyond p xs) (x ∷ xs))
    [ true ↦ ap (λ ys. x ∷ ys) (front_beyond p xs) | false ↦ refl ]

pub front_all : (p : ℕ → Bool) (xs : List ℕ) → list_all p (front p xs) ≡ true
front_all p [] = refl
front_all p (x ∷ xs) = grind (arith, nat_tests, front_all p xs)

-- the first byte fails the test, or there is none
abbrev pub stops : (ℕ → Bool) → List ℕ → Bool
stops p [] = true
stops p (x ∷ xs) = not (p x)

pub beyond_stops : (p : ℕ → Bool) (xs : List ℕ) → stops p (beyond p xs) ≡ true
beyond_stops p [] = refl
beyond_stops p (x ∷ xs) = grind (arith, nat_tests, beyond_stops p xs)

pub beyond_none : (p : ℕ → Bool) (xs : List ℕ) → stops p xs ≡ true → beyond p xs ≡ xs
beyond_none p [] h = refl
beyond_none p (x ∷ xs) h = grind (arith, nat_tests)

pub front_none : (p : ℕ → Bool) (xs : List ℕ) → stops p xs ≡ true → front p xs ≡ []
front_none p [] h = refl
front_none p (x ∷ xs) h = grind (arith, nat_tests)

pub position_within : (p : ℕ → Bool) (xs : List ℕ) (i : ℕ) → position p xs ≡ Some i → i < length xs
position_within p xs i e = (position-Some p xs i 0 e).0
