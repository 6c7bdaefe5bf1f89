-- A line of a text that is cut at its line ends.
use Rattle.std.proofs.Common.{◌≡◌, ◌≢◌, ℕ, zero, suc, ◌<◌, ◌≤◌, ◌*◌, ◌/◌, ◌^◌, ◌==◌, Bool, true, false, cond, List, [], ◌∷◌, ◌++◌, length, get_or, decimal, refl, sym, ap, ◌∙◌, subst, inl, inr, arith}
use Rattle.std.specs.List.{join_with_byte, onto_first}
use Rattle.std.proofs.lemmas.List.Splits.{join_with_byte-slice_split}
use Rattle.std.proofs.lemmas.Fmt.{decimal_is_IsNumeral_wide}
use Rattle.std.specs.Str.Parse.{digits_value}
use native.Mathlib.Decide.{dec_lt}
use Rattle.booth_base.specs.declared.address.Address.{Address}
use Rattle.booth_base.specs.Address.{printed}
use Rattle.booth_world.specs.Tellers.{EndsLine, HasLine, HasNone}
use Rattle.booth_following.specs.Lists.{line_start, lines_of}
use Rattle.booth_services.proofs.ListLemmas.{joins, with_none}

-- ---- pieces

-- no piece has a line end
abbrev AreSingle : List (List ℕ) → Type 0
AreSingle [] = Unit {0}
AreSingle (line ∷ lines) = HasNone 10 line × AreSingle lines

onto_single : (b : ℕ) (lines : List (List ℕ)) → b ≢ 10 → AreSingle lines → AreSingle (onto_first b lines)
onto_single b [] other h = ((other, tt), tt)
onto_single b (line ∷ lines) other h = ((other, h.0), h.1)

pieces_single : (text : List ℕ) → AreSingle (lines_of text)
pieces_single [] = (tt, tt)
pieces_single (b ∷ text) = by_byte (b == 10) refl (pieces_single text)
  where
    not_same : (b == 10) ≡ false → b ≡ 10 → ⊥
    not_same is same = let e : (10 == 10) ≡ false = subst (λ (n : ℕ). (n == 10) ≡ false) same is in cc

    by_byte : (test : Bool) → (b == 10) ≡ test → AreSingle (lines_of text)
        → AreSingle (cond test ([] ∷ lines_of text) (onto_first b (lines_of text)))
    by_byte true is rest = (tt, rest)
    by_byte false is rest = onto_single b (lines_of text) (not_same is) rest

-- each piece of such a row is a line of it
line_in : (lines : List (List ℕ)) (place : ℕ) → place < length lines → AreSingle lines → HasLine (join_with_byte 10 lines) (get_or lines place [])
line_in [] place below h = absurd (omega (arith, below))
line_in (line ∷ []) zero below h = record {
  before = [];
  after = [];
  whole = sym (with_none line);
  begins = inl refl;
  ends = inl refl;
  single = h.0;
}
line_in (line ∷ []) (suc place) below h = absurd (omega (arith, below))
line_in (line ∷ next ∷ lines) zero below h = record {
  before = [];
  after = 10 ∷ join_with_byte 10 (next ∷ lines);
  whole = refl;
  begins = inl refl;
  ends = inr (join_with_byte 10 (next ∷ lines), refl);
  single = h.0;
}
line_in (line ∷ next ∷ lines) (suc place) below h =
    let x = line_in (next ∷ lines) place (omega (arith, below)) h.1 in record {
      before = (line ++ 10 ∷ []) ++ x.before;
      after = x.after;
      whole = ap (λ (rest : List ℕ). line ++ 10 ∷ rest) x.whole
          ∙ sym (joins line (10 ∷ []) (x.before ++ (get_or (next ∷ lines) place [] ++ x.after)))
          ∙ sym (joins (line ++ 10 ∷ []) x.before (get_or (next ∷ lines) place [] ++ x.after));
      begins = by_begin x.before x.begins;
      ends = x.ends;
      single = x.single;
    }
  where
    by_begin : (before : List ℕ) → EndsLine before → EndsLine ((line ++ 10 ∷ []) ++ before)
    by_begin before (inl none) = inr (line, ap (λ (rest : List ℕ). (line ++ 10 ∷ []) ++ rest) none ∙ with_none (line ++ 10 ∷ []))
    by_begin before (inr q) =
        inr ((line ++ 10 ∷ []) ++ q.0, ap (λ (rest : List ℕ). (line ++ 10 ∷ []) ++ rest) q.1 ∙ sym (joins (line ++ 10 ∷ []) q.0 (10 ∷ [])))

-- each piece of a text is a line of it
pub line_at : (text : List ℕ) (place : ℕ) → place < length (lines_of text) → HasLine text (get_or (lines_of text) place [])
line_at text place below =
    subst (λ (whole : List ℕ). HasLine whole (get_or (lines_of text) place [])) (join_with_byte-slice_split 10 text)
    (line_in (lines_of text) place below (pieces_single text))

-- ---- the ticket's line

pub ticket_line : (name : List ℕ) (address : Address) (digits : List ℕ)
    → line_start name address ++ digits ≡ name ++ 32 ∷ (printed address ++ 32 ∷ digits)
ticket_line name address digits =
    joins name (32 ∷ (printed address ++ 32 ∷ [])) digits ∙ ap (λ (rest : List ℕ). name ++ 32 ∷ rest) (joins (printed address) (32 ∷ []) digits)

-- an end whose second has these digits is no earlier
pub no_earlier : (seconds until : ℕ) → seconds < 2 ^ 64 → decimal (until / 1000) ≡ decimal seconds → seconds * 1000 ≤ until
no_earlier seconds until small same = by_size (dec_lt (until / 1000) (10 ^ 64))
  where
    by_size : Dec (until / 1000 < 10 ^ 64) → seconds * 1000 ≤ until
    by_size (yes few) =
        let same_second : until / 1000 ≡ seconds =
        sym (decimal_is_IsNumeral_wide (until / 1000) few).1 ∙ ap (digits_value 10) same ∙ (decimal_is_IsNumeral_wide seconds (omega (arith, small))).1 in
        omega (arith, same_second)
    by_size (no many) = omega (arith, small, many)
