-- The records that a start may read, as records and not as the states of steps.
use Rattle.std.specs.Prelude.{◌≡◌, ◌⊎◌, ◌<◌, ◌≤◌, Bool, true, List, None}
use Rattle.booth_rec.specs.declared.record.Record.{Record}
use Rattle.booth_rec.specs.Record.{first_plain}
use Rattle.booth_world.specs.Facts.{Has}

-- A silent record is of version 1 and has no lease. A site's has at least the term of a record that may be written.
pub record IsSilentRecord (site : Bool) (may : List Record) (kept : Record) : Type 0 where
  pub bare : kept ≡ first_plain kept.term None
  pub reaches : site ≡ true → (k : Record) × Has may k × (k.term ≤ kept.term)

-- The record may be written, or is silent.
abbrev pub MayBeRead : Bool → List Record → Record → Type 0
MayBeRead site may kept = Has may kept ⊎ IsSilentRecord site may kept

-- The record may be written, or has a greater term than a record that may be written.
abbrev pub IsLaterOrKept : List Record → Record → Type 0
IsLaterOrKept may kept = Has may kept ⊎ ((k : Record) × Has may k × (k.term < kept.term))
