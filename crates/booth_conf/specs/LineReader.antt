-- The results of the functions that read a line. The proofs show that they follow the grammar.
use Rattle.std.specs.Prelude.{◌≡◌, ℕ, Bool, ◌&&◌, ◌||◌, not, ◌==◌, List, [], ◌∷◌, ◌+◌, take, drop, Option, Some, None, if◌then◌else◌}
use Rattle.std.specs.List.{list_all, position}
use Rattle.booth_conf.specs.Grammar.{is_blank, is_key_byte, is_value_byte, beyond, is_end}
use Rattle.booth_conf.specs.declared.grammar.Line.{Line}
use Rattle.booth_conf.specs.declared.grammar.Line.TheVariants as lines

-- the content of a line, as lists
pub data Reading : Type 0 where
  Empty : Reading
  Pair : List ℕ → List ℕ → Reading
  Broken : Reading

-- the bytes in front that pass the test
abbrev pub front : (ℕ → Bool) → List ℕ → List ℕ
front p [] = []
front p (b ∷ bs) = if p b then b ∷ front p bs else []

-- a bare value goes up to the first blank that starts the end of the line
abbrev pub bare_part : List ℕ → List ℕ
bare_part [] = []
bare_part (b ∷ bs) = if is_blank b && is_end bs then [] else b ∷ bare_part bs

abbrev pub bare : List ℕ → Option (List ℕ)
bare bytes = if list_all is_value_byte (bare_part bytes) then Some (bare_part bytes) else None

abbrev pub closed : List ℕ → ℕ → Option (List ℕ)
closed inside end =
    if not (is_end (drop (end + 1) inside)) then None
    else (if list_all is_value_byte (take end inside) then Some (take end inside) else None)

-- a value up to the next quote of its kind
abbrev pub quoted_to : List ℕ → Option ℕ → Option (List ℕ)
quoted_to inside None = None
quoted_to inside (Some end) = closed inside end

abbrev pub quoted : ℕ → List ℕ → Option (List ℕ)
quoted quote inside = quoted_to inside (position (λ b. b == quote) inside)

abbrev pub value_in : List ℕ → Option (List ℕ)
value_in [] = None
value_in (b ∷ bs) =
    if b == 0x23 then None
    else (if b == 0x22 || b == 0x27 then quoted b bs else bare (b ∷ bs))

abbrev pub valued : List ℕ → Option (List ℕ) → Reading
valued key None = Broken
valued key (Some value) = Pair key value

abbrev pub keyed : List ℕ → List ℕ → Reading
keyed [] rest = Broken
keyed (k ∷ ks) [] = Broken
keyed (k ∷ ks) (b ∷ rest) =
    if b == 0x3D then valued (k ∷ ks) (value_in (beyond is_blank rest)) else Broken

abbrev pub begun : List ℕ → Reading
begun start =
    if is_end start then Empty
    else keyed (front is_key_byte start) (beyond is_blank (beyond is_key_byte start))

abbrev pub line_read : List ℕ → Reading
line_read line = begun (beyond is_blank line)

-- the code has the same result as the definition
abbrev pub Shows : Line → Reading → Type 0
Shows lines.Empty read = read ≡ Empty
Shows (lines.Pair key value) read = read ≡ Pair key.now value.now
Shows lines.Broken read = read ≡ Broken
