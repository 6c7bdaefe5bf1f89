-- Hexadecimal digits of bytes, piece by piece.
use Rattle.std.proofs.Common.{◌≡◌, ◌+◌, ◌<◌, ◌/◌, ◌%◌, ℕ, List, [], ◌∷◌, ◌++◌, length, take, slice_index, refl, sym, ap, ◌∙◌, append_assoc, append-nil, arith}
use Rattle.std.proofs.lemmas.List.{take_more}
use Rattle.hex.specs.Hex.{encode_lower, encode_with, lower_digits}
use Rattle.booth_journal.specs.Lines.{hex_text}
use Rattle.hex.proofs.HexLemmas.{length-encode_with}

encode_both : (t xs ys : List ℕ) → encode_with t (xs ++ ys) ≡ encode_with t xs ++ encode_with t ys
unfolding encode_with
encode_both t [] ys = refl
encode_both t (x ∷ xs) ys =
    ap (λ (l : List ℕ). slice_index t (x / 16) ∷ slice_index t (x % 16) ∷ l) (encode_both t xs ys)

-- one piece behind another
pub encode_append : (xs ys : List ℕ) → encode_lower (xs ++ ys) ≡ encode_lower xs ++ encode_lower ys
encode_append xs ys = encode_both lower_digits xs ys

-- one more byte
pub encode_next : (xs : List ℕ) (i : ℕ) → i < length xs
    → encode_lower (take (i + 1) xs) ≡ encode_lower (take i xs) ++ encode_lower (slice_index xs i ∷ [])
encode_next xs i below = ap encode_lower (take_more xs i 0 below) ∙ encode_append (take i xs) (slice_index xs i ∷ [])

-- two digits a byte
pub encode_long : (xs : List ℕ) → length (encode_lower xs) ≡ length xs + length xs
encode_long xs = let e = length-encode_with lower_digits xs in omega (arith, e)

-- no byte so far
pub encode_none : (s xs : List ℕ) → s ≡ s ++ encode_lower (take 0 xs)
unfolding encode_with
encode_none s xs = sym (append-nil s)

-- one more byte behind a text
pub encode_more : (s xs : List ℕ) (i : ℕ) → i < length xs
    → (s ++ encode_lower (take i xs)) ++ encode_lower (slice_index xs i ∷ []) ≡ s ++ encode_lower (take (i + 1) xs)
encode_more s xs i below =
    append_assoc s (encode_lower (take i xs)) (encode_lower (slice_index xs i ∷ []))
    ∙ ap (λ l. s ++ l) (sym (encode_next xs i below))

-- some bytes are not spelled as none
pub hex_of_some : (xs : List ℕ) → 0 < length xs → encode_lower xs ≡ hex_text xs
hex_of_some [] some = absurd (omega (arith, some))
hex_of_some (x ∷ xs) some = refl
