-- The names of tickets, line by line.
use Rattle.std.specs.Prelude.{slice_get}
use Rattle.std.proofs.Common.{◌≡◌, ◌<◌, ◌≤◌, ◌+◌, ◌-◌, ℕ, zero, suc, Option, List, [], ◌∷◌, length, map, drop, get_or, Some, None, refl, sym, ap, ◌∙◌, arith}
use Rattle.std.proofs.lemmas.List.{drop_all}
use Rattle.booth_conf.specs.SaidReader.{said}
use Rattle.booth_conf.specs.Reads.{lines_of, said_lines}
use Rattle.booth_conf.specs.Names.{name_said, names_said, NamesTicket}
use Rattle.booth_conf.proofs.SaidLemmas.{all_said_found}

-- the names on these lines
abbrev pub names_of : List (List ℕ) → List (List ℕ)
names_of lines = names_said (map said lines)

-- the lines from one on
from_line : (lines : List (List ℕ)) (n : ℕ) (line : List ℕ) → n < length lines →
    line ≡ get_or lines n line → drop n lines ≡ line ∷ drop (suc n) lines
from_line [] n line h is = absurd (omega (arith, h))
from_line (x ∷ xs) zero line h is = ap (λ y. y ∷ xs) (sym is)
from_line (x ∷ xs) (suc n) line h is = from_line xs n line (omega (arith, h)) is

next_line : (lines : List (List ℕ)) (n : ℕ) (line : List ℕ) → n < length lines →
    line ≡ get_or lines n line → drop n lines ≡ line ∷ drop (n + 1) lines
next_line lines n line h is = let e : n + 1 ≡ suc n = omega arith in rw e (from_line lines n line h is)

-- a line without a name
pub passed : (line : List ℕ) (rest : List (List ℕ)) (left : ℕ) → name_said (said line) ≡ None →
    slice_get (names_of (line ∷ rest)) left ≡ slice_get (names_of rest) left
passed line rest left none = rw none refl

-- a line with a name before the place
pub counted : (line name : List ℕ) (rest : List (List ℕ)) (left : ℕ) →
    name_said (said line) ≡ Some name → (left ≡ 0 → ⊥) →
    slice_get (names_of (line ∷ rest)) left ≡ slice_get (names_of rest) (left - 1)
counted line name rest zero some more = absurd (more refl)
counted line name rest (suc n) some more = let e : suc n - 1 ≡ n = omega arith in rw (some, e) refl

-- the line of the place
pub found : (line name : List ℕ) (rest : List (List ℕ)) (left : ℕ) →
    name_said (said line) ≡ Some name → left ≡ 0 →
    slice_get (names_of (line ∷ rest)) left ≡ Some name
found line name rest left some none = rw (none, some) refl

-- what is left, after each kind of line
module _ (lines : List (List ℕ)) (n : ℕ) (line : List ℕ) (within : n < length lines) (is : line ≡ get_or lines n line) (left : ℕ) where
  pub after_passed : name_said (said line) ≡ None →
      slice_get (names_of (drop (n + 1) lines)) left ≡ slice_get (names_of (drop n lines)) left
  after_passed none =
      sym (ap (λ ls. slice_get (names_of ls) left) (next_line lines n line within is) ∙ passed line (drop (n + 1) lines) left none)

  pub after_counted : (name : List ℕ) → name_said (said line) ≡ Some name → (left ≡ 0 → ⊥) →
      slice_get (names_of (drop (n + 1) lines)) (left - 1) ≡ slice_get (names_of (drop n lines)) left
  after_counted name some more =
      sym (ap (λ ls. slice_get (names_of ls) left) (next_line lines n line within is) ∙ counted line name (drop (n + 1) lines) left some more)

  pub at_found : (name : List ℕ) → name_said (said line) ≡ Some name → left ≡ 0 →
      slice_get (names_of (drop n lines)) left ≡ Some name
  at_found name some none =
      ap (λ ls. slice_get (names_of ls) left) (next_line lines n line within is)
      ∙ found line name (drop (n + 1) lines) left some none

-- no line is left
pub none_left : (lines : List (List ℕ)) (n left : ℕ) → length lines ≤ n →
    slice_get (names_of (drop n lines)) left ≡ None
none_left lines n left h = ap (λ ls. slice_get (names_of ls) left) (drop_all n lines h)

-- the name that is read is the one that the lines say
pub names_ticket : (text : List ℕ) (place : ℕ) (name : Option (List ℕ)) →
    name ≡ slice_get (names_said (said_lines text)) place → NamesTicket text place name
names_ticket text place name same =
    record { said = said_lines text; reads = all_said_found (lines_of text); at_place = same }
