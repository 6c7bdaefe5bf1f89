-- The lines of a list.
use Rattle.std.proofs.Common.{◌≡◌, ◌<◌, ◌*◌, ◌^◌, ◌++◌, ℕ, List, [], length, get_or, decimal, Option, Some, None, ap, sym, subst, ◌∙◌, arith}
use Rattle.std.specs.Option.{SomeIff}
use Rattle.std.proofs.lemmas.Fmt.{decimal_injective}
use Rattle.std.proofs.lemmas.List.{append_cancel_left, get_or_default}
use Rattle.booth_following.specs.Lists.{IsLine, IsUntil}

-- what stands behind the beginning of a line that tells an end
pub behind_is : (start line rest : List ℕ) (until : ℕ) → line ≡ start ++ rest → (told : IsLine start line until) → rest ≡ decimal told.seconds
behind_is start line rest until whole told = append_cancel_left start rest (decimal told.seconds) (sym whole ∙ told.spelled)

pub few_seconds : (start line : List ℕ) (until : ℕ) → (told : IsLine start line until) → told.seconds < 2 ^ 64
few_seconds start line until told = let millis : until ≡ told.seconds * 1000 = told.millis in let small : until < 2 ^ 64 = told.small in omega arith

-- what holds of the line of a place holds, whatever is read past the last
pub line_at : (P : List ℕ → Type 0) (lines : List (List ℕ)) (line : List ℕ) (place : ℕ) → place < length lines → line ≡ get_or lines place line →
    P line → P (get_or lines place [])
line_at P lines line place lt is holds = subst P (is ∙ get_or_default lines place line [] lt) holds

pub line_of : (P : List ℕ → Type 0) (lines : List (List ℕ)) (line : List ℕ) (place : ℕ) → place < length lines → line ≡ get_or lines place line →
    P (get_or lines place []) → P line
line_of P lines line place lt is holds = subst P (sym (is ∙ get_or_default lines place line [] lt)) holds

-- the seconds times 1000, where they fit
pub told_until : (start line rest : List ℕ) (seconds : ℕ) (until : Option ℕ) → line ≡ start ++ rest → rest ≡ decimal seconds → seconds < 2 ^ 64 →
    SomeIff until (seconds * 1000 < 2 ^ 64) (seconds * 1000) → IsUntil start line until
told_until start line rest seconds (Some until) whole spelled few product = record {
  seconds = seconds;
  spelled = whole ∙ ap (λ (bytes : List ℕ). start ++ bytes) spelled;
  millis = product.1;
  small = let e : until ≡ seconds * 1000 = product.1 in let lt : seconds * 1000 < 2 ^ 64 = product.0 in omega arith;
}
told_until start line rest seconds None whole spelled few product = λ until told.
    let same : told.seconds ≡ seconds = decimal_injective told.seconds seconds (few_seconds start line until told) few
    (sym (behind_is start line rest until whole told) ∙ spelled) in
    let millis : until ≡ told.seconds * 1000 = told.millis in
    let small : until < 2 ^ 64 = told.small in product (omega arith)
