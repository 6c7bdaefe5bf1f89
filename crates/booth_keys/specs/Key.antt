-- Which bytes of a key file are the key.
use Rattle.std.specs.Prelude.{◌≡◌, ℕ, ◌<◌, Bool, true, ◌&&◌, ◌||◌, ◌==◌, ◌-◌, nat_le, nat_lt, if◌then◌else◌, List, ◌++◌, length, take, drop, Result, Ok, Err}
use Rattle.std.specs.List.{list_all, prefix_len, suffix_len}
use Rattle.booth_base.specs.Name.{is_text_byte}
use Rattle.booth_keys.specs.declared.key.KeyFault.{KeyFault}
use Rattle.booth_keys.specs.declared.key.KeyFault.TheVariants.{TooShort, TooLong}

-- a tab, a line end, a vertical tab, a form feed, a carriage return, or a space
abbrev pub is_blank : ℕ → Bool
is_blank b = (nat_le 0x09 b && nat_le b 0x0D) || b == 0x20

-- a byte of plain text
abbrev pub is_plain : ℕ → Bool
is_plain b = (nat_le 0x09 b && nat_le b 0x0D) || is_text_byte b

-- without the blanks in front
abbrev pub begun : List ℕ → List ℕ
begun bytes = drop (prefix_len is_blank bytes) bytes

-- without the blanks at the end
abbrev pub ended : List ℕ → List ℕ
ended bytes = take (length bytes - suffix_len is_blank bytes) bytes

-- the content of a key file: if it is plain text, without the blanks at both ends
abbrev pub kept : List ℕ → List ℕ
kept bytes = if list_all is_plain bytes then ended (begun bytes) else bytes

-- the key of a key file, or why there is none
abbrev pub key_read : List ℕ → Result (List ℕ) KeyFault
key_read bytes =
    if nat_lt (length (kept bytes)) 8 then Err TooShort else
    if nat_lt 64 (length (kept bytes)) then Err TooLong else Ok (kept bytes)

-- ---- a law

-- A key file in plain text: blanks, the key, blanks; the key neither begins nor ends with a blank.
pub record IsKeyText (bytes key : List ℕ) : Type 0 where
  pub before : List ℕ
  pub after : List ℕ
  pub parts : bytes ≡ before ++ (key ++ after)
  pub before_blank : list_all is_blank before ≡ true
  pub after_blank : list_all is_blank after ≡ true
  pub plain : list_all is_plain key ≡ true
  pub some : 0 < length key
  pub begins : prefix_len is_blank key ≡ 0
  pub ends : suffix_len is_blank key ≡ 0

-- The content of such a file is exactly the key.
abbrev pub KeyTextIsKey : Type 0
KeyTextIsKey = (bytes key : List ℕ) → IsKeyText bytes key → kept bytes ≡ key
