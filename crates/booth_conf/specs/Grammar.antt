-- The grammar of a line: how a key and its value are written. It contains no reader.
use Rattle.std.specs.Prelude.{◌≡◌, ℕ, Bool, true, false, ◌&&◌, ◌||◌, not, nat_le, ◌==◌, List, [], ◌∷◌, ◌++◌, if◌then◌else◌, ◌⊎◌}
use Rattle.std.specs.List.{list_all}
use Rattle.booth_conf.specs.declared.grammar.Line.{Line}
use Rattle.booth_conf.specs.declared.grammar.Line.TheVariants.{Empty, Pair, Broken}

-- a space, a tab or a carriage return
abbrev pub is_blank : ℕ → Bool
is_blank b = b == 0x20 || b == 0x09 || b == 0x0D

-- a letter, a digit, `-` or `_`
abbrev pub is_key_byte : ℕ → Bool
is_key_byte b =
    (nat_le 0x61 b && nat_le b 0x7A) || (nat_le 0x41 b && nat_le b 0x5A)
    || (nat_le 0x30 b && nat_le b 0x39) || b == 0x2D || b == 0x5F

-- a printing byte or a tab
abbrev pub is_value_byte : ℕ → Bool
is_value_byte b = (nat_le 0x20 b && nat_le b 0x7E) || b == 0x09

-- a byte other than this one
abbrev pub is_other : ℕ → ℕ → Bool
is_other byte b = not (b == byte)

-- the rest after the leading bytes that pass the test
abbrev pub beyond : (ℕ → Bool) → List ℕ → List ℕ
beyond p [] = []
beyond p (b ∷ bs) = if p b then beyond p bs else b ∷ bs

-- nothing, or a comment
abbrev pub begins_note : List ℕ → Bool
begins_note [] = true
begins_note (b ∷ bs) = b == 0x23

-- blanks, or blanks and a comment
abbrev pub is_end : List ℕ → Bool
is_end bytes = begins_note (beyond is_blank bytes)

-- VALUES

-- a value in quotes of one kind, without that quote inside; then the end of the line
pub record IsQuoted (quote : ℕ) (rest value : List ℕ) : Type 0 where
  pub tail : List ℕ
  pub spelled : rest ≡ quote ∷ value ++ quote ∷ tail
  pub plain : list_all (is_other quote) value ≡ true
  pub ends : is_end tail ≡ true

-- a first byte that is no quote, no `#` and no blank
abbrev pub begins_bare : List ℕ → Bool
begins_bare [] = false
begins_bare (b ∷ bs) = not (b == 0x22 || b == 0x27 || b == 0x23 || is_blank b)

-- no blank inside starts the end of the line, which is blanks, or blanks and a comment
abbrev pub stays_bare : List ℕ → List ℕ → Bool
stays_bare [] tail = true
stays_bare (b ∷ bs) tail = not (is_blank b && is_end (bs ++ tail)) && stays_bare bs tail

-- nothing, or a blank that starts the end of the line
abbrev pub ends_bare : List ℕ → Bool
ends_bare [] = true
ends_bare (b ∷ bs) = is_blank b && is_end bs

-- a value without quotes; then the end of the line
pub record IsBare (rest value : List ℕ) : Type 0 where
  pub tail : List ℕ
  pub spelled : rest ≡ value ++ tail
  pub begins : begins_bare value ≡ true
  pub stays : stays_bare value tail ≡ true
  pub ends : ends_bare tail ≡ true

-- a value in `"`, in `'`, or bare
abbrev pub IsWritten : List ℕ → List ℕ → Type 0
IsWritten rest value = IsQuoted 0x22 rest value ⊎ IsQuoted 0x27 rest value ⊎ IsBare rest value

-- LINES

-- one or more bytes of a key
abbrev pub is_key : List ℕ → Bool
is_key [] = false
is_key (b ∷ bs) = is_key_byte b && list_all is_key_byte bs

-- blanks, a key, blanks, `=`, blanks, a value, and the end of the line
pub record IsPair (line key value : List ℕ) : Type 0 where
  pub lead : List ℕ
  pub gap : List ℕ
  pub pad : List ℕ
  pub rest : List ℕ
  pub spelled : line ≡ lead ++ (key ++ (gap ++ 0x3D ∷ (pad ++ rest)))
  pub lead_blank : list_all is_blank lead ≡ true
  pub gap_blank : list_all is_blank gap ≡ true
  pub pad_blank : list_all is_blank pad ≡ true
  pub named : is_key key ≡ true
  pub written : IsWritten rest value
  pub plain : list_all is_value_byte value ≡ true

-- blanks, or blanks and a comment
abbrev pub IsEmptyLine : List ℕ → Type 0
IsEmptyLine line = is_end line ≡ true

-- the content of a line, by the grammar
abbrev pub Reads : List ℕ → Line → Type 0
Reads line Empty = IsEmptyLine line
Reads line (Pair key value) = IsPair line key.now value.now
Reads line Broken = (IsEmptyLine line → ⊥) × ((key value : List ℕ) → IsPair line key value → ⊥)

-- no line has two readings
pub record OneReading : Type 0 where
  pub one_pair : (line a b c d : List ℕ) → IsPair line a b → IsPair line c d → (a ≡ c) × (b ≡ d)
  pub no_pair : (line a b : List ℕ) → IsEmptyLine line → IsPair line a b → ⊥
