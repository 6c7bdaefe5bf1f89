-- A list of tickets, divided into parts, one for each reply to a client.
use Rattle.std.specs.Prelude.{◌≡◌, ◌≤◌, ◌<◌, ◌+◌, ◌++◌, ℕ, List, [], ◌∷◌, length, drop, nat_le, if◌then◌else◌}
use Rattle.std.specs.List.{All}
use Rattle.booth_base.specs.declared.buffer.TheConstants.{TEXT_BYTES}

-- The text of a part.
abbrev pub part_text : List (List ℕ) → List ℕ
part_text [] = []
part_text (line ∷ lines) = line ++ part_text lines

-- The parts with a line added at the front of the first part.
abbrev pub with_first : List ℕ → List (List (List ℕ)) → List (List (List ℕ))
with_first line [] = (line ∷ []) ∷ []
with_first line (part ∷ parts) = (line ∷ part) ∷ parts

-- The lines, cut into parts. From the first on, each part has as many whole lines as a text holds. This many bytes of
-- the first part are used already.
abbrev pub cut_lines : ℕ → List (List ℕ) → List (List (List ℕ))
cut_lines taken [] = [] ∷ []
cut_lines taken (line ∷ lines) =
    if nat_le (taken + length line) TEXT_BYTES then with_first line (cut_lines (taken + length line) lines)
    else [] ∷ with_first line (cut_lines (length line) lines)

-- The parts after this many lines. There are none after the last line.
abbrev pub parts_from : List (List ℕ) → ℕ → List (List (List ℕ))
parts_from lines count = if nat_le (length lines) count then [] else cut_lines 0 (drop count lines)

-- This text is the first part of these lines, and contains this many of them.
pub record IsPart (lines : List (List ℕ)) (count : ℕ) (text : List ℕ) : Type 0 where
  pub part : List (List ℕ)
  pub text_is : text ≡ part_text part
  pub cut : cut_lines 0 lines ≡ part ∷ parts_from lines count
  pub within : count ≤ length lines
  pub on : 0 < length lines → 0 < count

-- ---- properties of parts

abbrev pub joined : List (List (List ℕ)) → List (List ℕ)
joined [] = []
joined (part ∷ parts) = part ++ joined parts

-- The first line of the next part, if there is one, does not fit into a part that has this many bytes.
abbrev pub IsFull : ℕ → List (List (List ℕ)) → Type 0
IsFull used [] = Unit {0}
IsFull used ([] ∷ parts) = ⊥
IsFull used ((line ∷ part) ∷ parts) = TEXT_BYTES < used + length line

-- Each part fits, and only the last could hold one more line.
abbrev pub AreFull : List (List (List ℕ)) → Type 0
AreFull [] = Unit {0}
AreFull (part ∷ parts) = (length (part_text part) ≤ TEXT_BYTES) × IsFull (length (part_text part)) parts × AreFull parts

-- There is at least one part. Joined, the parts are the lines. Each part fits, and only the last could hold one more
-- line.
pub record AreParts (lines : List (List ℕ)) (parts : List (List (List ℕ))) : Type 0 where
  pub some : 1 ≤ length parts
  pub whole : joined parts ≡ lines
  pub full : AreFull parts

-- If each line fits, the lines have these parts and no others.
abbrev pub ListsHaveTheseParts : Type 0
ListsHaveTheseParts =
    (lines : List (List ℕ)) → All (λ line. length line ≤ TEXT_BYTES) lines
    → AreParts lines (cut_lines 0 lines)
    × ((parts : List (List (List ℕ))) → AreParts lines parts → parts ≡ cut_lines 0 lines)
