-- A line of a list, by its place.
use Rattle.std.proofs.Common.{◌≡◌, ◌∙◌, ◌<◌, ℕ, List, [], length, get_or, sym, subst}
use Rattle.std.proofs.lemmas.List.{get_or_default}

pub line_at : (P : List ℕ → Type 0) (lines : List (List ℕ)) (line : List ℕ) (place : ℕ) → place < length lines → line ≡ get_or lines place line →
    P line → P (get_or lines place [])
line_at P lines line place lt is holds = subst P (is ∙ get_or_default lines place line [] lt) holds

pub line_of : (P : List ℕ → Type 0) (lines : List (List ℕ)) (line : List ℕ) (place : ℕ) → place < length lines → line ≡ get_or lines place line →
    P (get_or lines place []) → P line
line_of P lines line place lt is holds = subst P (sym (is ∙ get_or_default lines place line [] lt)) holds
