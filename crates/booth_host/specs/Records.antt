-- The records of a host in memory.
use Rattle.std.specs.Prelude.{◌≡◌, ◌≤◌, ◌⊎◌, ℕ, List, [], ◌∷◌, ◌++◌, nat_eq, position, option_map, Option, None, Some, Result, Ok, Err, slice_get, slice_set, vec_len, vec_capacity}
use Rattle.std.specs.Cmp.Lexicographic.{pointwise}
use Rattle.booth_rec.specs.declared.record.Record.{Record}
use Rattle.booth_host.specs.declared.host.Failed.{Failed}
use Rattle.booth_host.specs.declared.memory.MemoryHost.{MemoryHost}

-- the records, by their tickets' names
abbrev pub records_of : MemoryHost → List (List ℕ × Record)
records_of host = host.records.items

-- the place of this ticket's record
abbrev pub place_of : List (List ℕ × Record) → List ℕ → Option ℕ
place_of records ticket = position (λ pair. pointwise nat_eq pair.0 ticket) records

-- the record at a place
abbrev pub record_at : List (List ℕ × Record) → Option ℕ → Option Record
record_at records None = None
record_at records (Some place) = option_map (λ pair. pair.1) (slice_get records place)

-- the record of this ticket
abbrev pub record_of : List (List ℕ × Record) → List ℕ → Option Record
record_of records ticket = record_at records (place_of records ticket)

abbrev pub stored_at : List (List ℕ × Record) → List ℕ → Record → Option ℕ → List (List ℕ × Record)
stored_at records ticket rec None = records ++ (ticket, rec) ∷ []
stored_at records ticket rec (Some place) = slice_set records place (ticket, rec)

-- the records with this one in place of the one before, or after the others
abbrev pub stored : List (List ℕ × Record) → List ℕ → Record → List (List ℕ × Record)
stored records ticket rec = stored_at records ticket rec (place_of records ticket)

-- the records after a write with this answer
abbrev pub kept_after : Result (Unit {0}) Failed → List (List ℕ × Record) → List ℕ → Record → List (List ℕ × Record)
kept_after (Ok done) records ticket rec = stored records ticket rec
kept_after (Err fault) records ticket rec = records

-- A ticket without a record may get none, since it needs more memory, and the records are unchanged.
pub record FindsNoPlace (old new : MemoryHost) (ticket : List ℕ) : Type 0 where
  pub unkept : place_of (records_of old) ticket ≡ None
  pub full : vec_capacity old.records ≤ vec_len old.records
  pub same : records_of new ≡ records_of old

-- also without recorded calls, the records are those after a write with this answer, or there was no memory for a
-- record
abbrev pub KeepsOrIsFull : Result (Unit {0}) Failed → MemoryHost → MemoryHost → List ℕ → Record → Type 0
KeepsOrIsFull answer old new ticket rec =
    (records_of new ≡ kept_after answer (records_of old) ticket rec) ⊎ FindsNoPlace old new ticket
