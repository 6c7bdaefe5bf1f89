-- The guarantees of the store of a record file, and the effect of its steps on the bytes.
use Rattle.std.specs.Prelude.{◌≡◌, ◌⊎◌, ℕ, slice_index, ◌<◌, ◌+◌, ◌-◌, ◌^◌, ◌==◌, if◌then◌else◌, Bool, true, false, List, [], ◌∷◌, ◌++◌, Option, None, Some}
use Rattle.booth_rec.specs.declared.record.Record.{Record}
use Rattle.booth_rec.specs.declared.record_file.Half.{Half}
use Rattle.booth_rec.specs.declared.record_file.Half.TheVariants.{First, Second}
use Rattle.booth_rec.specs.declared.record_file.Holding.{Holding}
use Rattle.booth_rec.specs.declared.slots.OpenFault.{OpenFault}
use Rattle.booth_rec.specs.declared.slots.OpenFault.TheVariants.{Disk, Torn}
use Rattle.booth_rec.specs.Spelling.{spelling, long}
use Rattle.booth_rec.specs.Disk.{IsWritten, SameOutside, Only}
use Rattle.booth_rec.specs.RecordFile.{stands_for, IsWhole}
use Rattle.booth_rec.specs.Holding.{place_of, spare_of, IsHolding}

-- the bytes of all slots of a file, zeros past its end
abbrev pub ReadsAlike : List ℕ → List ℕ → Type 0
ReadsAlike bytes file = (i : ℕ) → i < 336 → slice_index bytes i ≡ slice_index file i

-- the number of the next record, and none if the last one was used
abbrev pub next_number : Option ℕ → Option ℕ
next_number None = Some 1
next_number (Some number) = if number == 2 ^ 64 - 1 then None else Some (number + 1)

-- the file stands for this record, and each open slot has a record
pub record StandsFor (kept : Option Record) (file : List ℕ) : Type 0 where
  pub whole : IsWhole file
  pub stands : stands_for file ≡ kept

-- the file stands for the old record or for the new one
abbrev pub IsOldOrNew : Option Record → Record → List ℕ → Type 0
IsOldOrNew before new file = StandsFor before file ⊎ StandsFor (Some new) file

-- what the store knows of the disk is true, and a crash can leave only what a read returns
pub record IsSettled (seen : List ℕ) (may_leave : List ℕ → Type 0) (holding : Holding) : Type 0 where
  pub known : IsHolding seen holding
  pub durable : Only seen may_leave

-- the fault of an open, and what holds for the disk that it returns
abbrev pub Blames : {D : Type 0} → OpenFault D → (D → Type 0) → (D → Type 0) → Type 0
Blames (Disk disk) failed torn = failed disk
Blames (Torn disk) failed torn = torn disk

-- the number and the record, in the form of a slot
abbrev pub entry : ℕ → Record → List ℕ
entry number rec = long number ++ spelling rec

-- a slot of version 2 was opened
abbrev pub opened_in : Holding → Half → Holding
opened_in holding First = record holding { first_is_open = true }
opened_in holding Second = record holding { second_is_open = true }

-- the slot of a half was filled and opened, and is in force
abbrev pub filled_in : Half → Holding → ℕ → Record → Holding
filled_in half holding number rec = record (opened_in holding half) {
  standing = Some (record { half = Some half; held = record { number = number; kept = rec } });
}

-- what is known about a file after a put: its slot is in force, and the others are unchanged
abbrev pub after : Holding → ℕ → Record → Holding
after holding number rec = filled_in (spare_of holding.standing) holding number rec

-- a slot of version 2 was closed
abbrev pub closed_in : Holding → Half → Holding
closed_in holding First = record holding { first_is_open = false }
closed_in holding Second = record holding { second_is_open = false }

-- what is known about a file after the slot of the next put was closed
abbrev pub closed_after : Holding → Holding
closed_after holding = closed_in holding (spare_of holding.standing)

-- an open slot was closed, and a closed one is unchanged
abbrev pub Closes : Half → Bool → List ℕ → List ℕ → Type 0
Closes half true old new = IsWritten (place_of half) (0 ∷ []) old new
Closes half false old new = new ≡ old

-- what a crash during that may leave
abbrev pub Closing : Half → Bool → List ℕ → List ℕ → Type 0
Closing half true old new = SameOutside (place_of half) 1 old new
Closing half false old new = new ≡ old
