-- The record for which a record file stands. It has two slots of version 1, at 0 and 64, and two of version 2, at 128
-- and 256. A slot has a commit byte at its start, a number of 8 bytes from byte 8 on, and a record from byte 16 on:
-- 32 bytes in a slot of version 1, 64 in one of version 2.
use Rattle.std.specs.Prelude.{◌≡◌, ℕ, zero, suc, ◌+◌, ◌==◌, nat_lt, if◌then◌else◌, Bool, true, List, [], ◌∷◌, slice_index, Option, None, Some, option_map}
use Rattle.std.specs.Int.{w64, from_be_bytes}
use Rattle.booth_rec.specs.declared.record.Record.{Record}
use Rattle.booth_rec.specs.Spelling.{record_in, IsRecord}

-- n bytes of a file from a place on; past its end they are zeros
unfoldable pub bytes_at : ℕ → ℕ → List ℕ → List ℕ
bytes_at at zero file = []
bytes_at at (suc n) file = slice_index file at ∷ bytes_at (at + 1) n file

-- a slot: whether its commit byte is 1, its number, and the bytes at the place of its record
pub record Slot : Type 0 where
  pub is_open : Bool
  pub number : ℕ
  pub body : List ℕ

-- the slot at a place, with a body of this many bytes
unfoldable pub slot_at : ℕ → ℕ → List ℕ → Slot
slot_at place size file = record {
  is_open = slice_index file place == 1;
  number = from_be_bytes w64 (bytes_at (place + 8) 8 file);
  body = bytes_at (place + 16) size file;
}

abbrev pub first_slot : ℕ → List ℕ → Slot
first_slot place file = slot_at place 32 file

abbrev pub second_slot : ℕ → List ℕ → Slot
second_slot place file = slot_at place 64 file

abbrev pub slots_of : List ℕ → List Slot
slots_of file = first_slot 0 file ∷ first_slot 64 file ∷ second_slot 128 file ∷ second_slot 256 file ∷ []

-- this slot, or one after it with a greater number
abbrev pub greater : Slot → Option Slot → Option Slot
greater slot None = Some slot
greater slot (Some later) = if nat_lt slot.number later.number then Some later else Some slot

-- the open slot with the greatest number, the first if they are equal
abbrev pub greatest : List Slot → Option Slot
greatest [] = None
greatest (slot ∷ slots) = if slot.is_open then greater slot (greatest slots) else greatest slots

abbrev pub record_of_slot : Option Slot → Option Record
record_of_slot slot = option_map (λ s. record_in s.body) slot

abbrev pub number_of_slot : Option Slot → Option ℕ
number_of_slot slot = option_map (λ s. s.number) slot

-- the record for which a file stands
abbrev pub stands_for : List ℕ → Option Record
stands_for file = record_of_slot (greatest (slots_of file))

-- a closed slot, or one whose body is a record
abbrev pub HoldsRecord : Slot → Type 0
HoldsRecord slot = slot.is_open ≡ true → IsRecord slot.body

-- each open slot has a record; any other file is torn
pub record IsWhole (file : List ℕ) : Type 0 where
  pub old_first : HoldsRecord (first_slot 0 file)
  pub old_second : HoldsRecord (first_slot 64 file)
  pub first : HoldsRecord (second_slot 128 file)
  pub second : HoldsRecord (second_slot 256 file)
