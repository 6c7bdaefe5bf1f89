-- The search for the first slot that is due, list by list. No public clause cites this module.
use Rattle.std.specs.Prelude.{ℕ, zero, suc, ◌+◌, ◌%◌, ◌<◌, nat_lt, if◌then◌else◌, List, length, Option, Some, None}
use Rattle.booth_chain.specs.Pool.{Pool, items_at}
use Rattle.booth_chain.specs.Wheel.{IsDue, IsNotAfter}
use Rattle.booth_chain.specs.Slots.{IsIn}
use Rattle.booth_chain.specs.declared.slot.Found.{Found}
use Rattle.booth_chain.specs.declared.buckets.TheConstants.{BUCKETS}

-- This is the first slot that is due, by deadline and then slot, among those that were seen.
pub record IsFirstSeen (seen : ℕ → Type 0) (deadlines : List (Option ℕ)) (now : ℕ) (found : Found)
    : Type 0 where
  pub due : IsDue deadlines now found.slot found.deadline
  pub first : (other deadline : ℕ) → seen other → IsDue deadlines now other deadline
      → IsNotAfter found.deadline found.slot deadline other

-- the found slot is this slot, or no seen slot is due
abbrev pub IsFirstOf : (ℕ → Type 0) → List (Option ℕ) → ℕ → Option Found → Type 0
IsFirstOf seen deadlines now None =
    (other deadline : ℕ) → seen other → IsDue deadlines now other deadline → ⊥
IsFirstOf seen deadlines now (Some found) = IsFirstSeen seen deadlines now found

-- the slot is one of this list
abbrev pub SlotIn : List (ℕ × ℕ) → ℕ → Type 0
SlotIn entries slot = (node : ℕ) × IsIn node slot entries

-- the bucket that comes so many places after another
abbrev pub bucket_after : ℕ → ℕ → ℕ
bucket_after from step = (from + step) % BUCKETS

-- the slot is in one of `count` buckets that start with this one
abbrev pub SlotNear : Pool ℕ → ℕ → ℕ → ℕ → Type 0
SlotNear pool from many slot =
    (step : ℕ) × (step < many) × SlotIn (items_at pool (bucket_after from step)) slot

-- one look at each of these buckets, and one at each slot in them
abbrev pub looks : Pool ℕ → ℕ → ℕ → ℕ
looks pool from zero = 0
looks pool from (suc many) =
    looks pool from many + 1 + length (items_at pool (bucket_after from many))

-- the first of two, by deadline and then slot
abbrev pub earlier_of : Option Found → Option Found → Option Found
earlier_of None other = other
earlier_of (Some found) None = Some found
earlier_of (Some found) (Some other) =
    (if nat_lt found.deadline other.deadline then Some found
    else (if nat_lt other.deadline found.deadline then Some other
    else (if nat_lt other.slot found.slot then Some other else Some found)))

-- the slot, if its deadline has come
abbrev pub found_at : ℕ → ℕ → Option ℕ → Option Found
found_at now slot None = None
found_at now slot (Some deadline) =
    (if nat_lt now deadline then None else Some (record { slot = slot; deadline = deadline }))
