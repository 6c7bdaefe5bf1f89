-- What is known about a record file between two calls: which slot is in force, and which slots of version 2 are open.
use Rattle.std.specs.Prelude.{◌≡◌, ℕ, nat_lt, if◌then◌else◌, Bool, true, false, List, [], ◌∷◌, Option, None, Some, option_map, is_some}
use Rattle.booth_rec.specs.declared.record.Record.{Record}
use Rattle.booth_rec.specs.declared.record_file.Half.{Half}
use Rattle.booth_rec.specs.declared.record_file.Half.TheVariants.{First, Second}
use Rattle.booth_rec.specs.declared.record_file.Held.{Held}
use Rattle.booth_rec.specs.declared.record_file.Standing.{Standing}
use Rattle.booth_rec.specs.declared.record_file.Holding.{Holding}
use Rattle.booth_rec.specs.Spelling.{Spells}
use Rattle.booth_rec.specs.RecordFile.{Slot, first_slot, second_slot, slots_of, greatest, number_of_slot, stands_for, IsWhole}

-- the place of a slot of version 2
abbrev pub place_of : Half → ℕ
place_of First = 128
place_of Second = 256

abbrev pub new_slot : Half → List ℕ → Slot
new_slot half file = second_slot (place_of half) file

abbrev pub other_of : Half → Half
other_of First = Second
other_of Second = First

-- all slots except one of version 2, in their order
abbrev pub others_of : Half → List ℕ → List Slot
others_of half file = first_slot 0 file ∷ first_slot 64 file ∷ new_slot (other_of half) file ∷ []

-- the slot for the next put: the slot of version 2 that is not in force, or the first one if neither is in force
abbrev pub spare_after : Option Half → Half
spare_after None = First
spare_after (Some half) = other_of half

abbrev pub spare_of : Option Standing → Half
spare_of None = First
spare_of (Some standing) = spare_after standing.half

-- the record and the number for which the file stands
abbrev pub record_of : Option Standing → Option Record
record_of standing = option_map (λ s. s.held.kept) standing

abbrev pub number_of : Option Standing → Option ℕ
number_of standing = option_map (λ s. s.held.number) standing

-- whether a slot of version 2 is open
abbrev pub open_of : Holding → Half → Bool
open_of holding First = holding.first_is_open
open_of holding Second = holding.second_is_open

-- the content of a slot
abbrev pub Holds : Slot → Option Held → Type 0
Holds slot None = slot.is_open ≡ false
Holds slot (Some held) = (slot.is_open ≡ true) × (slot.number ≡ held.number) × Spells slot.body held.kept

-- the content with the greater number, or the first one if the numbers are equal
abbrev pub newer : Option Standing → Option Standing → Option Standing
newer None later = later
newer (Some earlier) None = Some earlier
newer (Some earlier) (Some later) = if nat_lt earlier.held.number later.held.number then Some later else Some earlier

-- the content of a slot of version 2, or, without a half, of version 1
abbrev pub standing_in : Option Half → Option Held → Option Standing
standing_in half held = option_map (λ h. let standing : Standing = record { half = half; held = h } in standing) held

-- what is known about a file whose slots have these contents
abbrev pub known_of : Option Held → Option Held → Option Held → Option Held → Holding
known_of old_first old_second first second = record {
  standing = newer (newer (standing_in None old_first) (standing_in None old_second))
      (newer (standing_in (Some First) first) (standing_in (Some Second) second));
  first_is_open = is_some first;
  second_is_open = is_some second;
}

-- what is known about a file is true, and each open slot has a record
pub record IsHolding (file : List ℕ) (holding : Holding) : Type 0 where
  pub whole : IsWhole file
  pub stands : stands_for file ≡ record_of holding.standing
  pub numbered : number_of_slot (greatest (slots_of file)) ≡ number_of holding.standing
  -- it does not stand for the slot of the next put
  pub aside : greatest (slots_of file) ≡ greatest (others_of (spare_of holding.standing) file)
  pub opens : (half : Half) → (new_slot half file).is_open ≡ open_of holding half
