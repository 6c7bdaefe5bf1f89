-- The content of a line, by the grammar of lines, the table of keys and the forms of their values.
use Rattle.std.specs.Prelude.{◌≢◌, ℕ, List, [], ◌∷◌, Option, Some, None}
use Rattle.booth_conf.specs.Grammar.{IsEmptyLine, IsPair}
use Rattle.booth_conf.specs.Keys.{row_of}
use Rattle.booth_conf.specs.Values.{HasValue}
use Rattle.booth_conf.specs.declared.keys.ConfKey.{ConfKey}
use Rattle.booth_conf.specs.declared.settings.Setting.{Setting}
use Rattle.booth_conf.specs.declared.line_meaning.Said.{Said}
use Rattle.booth_conf.specs.declared.line_meaning.Said.TheVariants.{Empty, Broken, Unknown, Pair}

-- the setting for the value, or none if the value does not have the key's form
abbrev pub MakesSetting : ConfKey → List ℕ → Option Setting → Type 0
MakesSetting key value None = (setting : Setting) → HasValue key value setting → ⊥
MakesSetting key value (Some setting) = HasValue key value setting

-- a key of the table, with its value
pub record SaysKey (line : List ℕ) (key : ConfKey) (setting : Option Setting) : Type 0 where
  pub value : List ℕ
  pub pair : IsPair line (row_of key).name value
  pub makes : MakesSetting key value setting

-- a key that the table does not have
pub record SaysUnknown (line : List ℕ) : Type 0 where
  pub name : List ℕ
  pub value : List ℕ
  pub pair : IsPair line name value
  pub unknown : (key : ConfKey) → (row_of key).name ≢ name

-- neither empty nor a key with a value
pub record IsBroken (line : List ℕ) : Type 0 where
  pub not_empty : IsEmptyLine line → ⊥
  pub no_pair : (name value : List ℕ) → IsPair line name value → ⊥

abbrev pub IsSaid : List ℕ → Said → Type 0
IsSaid line Empty = IsEmptyLine line
IsSaid line Broken = IsBroken line
IsSaid line Unknown = SaysUnknown line
IsSaid line (Pair key setting) = SaysKey line key setting

-- the content of each line
abbrev pub AreSaid : List (List ℕ) → List Said → Type 0
AreSaid [] [] = Unit {0}
AreSaid (l ∷ lines) (s ∷ said) = IsSaid l s × AreSaid lines said
AreSaid lines said = ⊥
