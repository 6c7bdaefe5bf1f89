-- A timer: a deadline for each slot that has one, and the slots whose deadline has come.
use Rattle.std.specs.Prelude.{◌≡◌, ◌⊎◌, ℕ, ◌<◌, ◌≤◌, List, replicate, slice_index_or, slice_set, Option, Some, None}

-- Each slot's deadline, the latest moment of a look for due slots, and the latest moment at which nothing was due.
pub record Timer : Type 0 where
  pub deadlines : List (Option ℕ)
  pub last : ℕ
  pub swept : ℕ

-- this many slots, and no deadline
abbrev pub new_timer : ℕ → Timer
new_timer slots = record { deadlines = replicate slots None; last = 0; swept = 0 }

-- a slot gets another deadline, or none
abbrev pub with_deadline : Timer → ℕ → Option ℕ → Timer
with_deadline timer slot deadline =
    record timer { deadlines = slice_set timer.deadlines slot deadline }

-- the slot's deadline is this one, and has come
pub record IsDue (deadlines : List (Option ℕ)) (now slot deadline : ℕ) : Type 0 where
  pub set : slice_index_or deadlines slot None ≡ Some deadline
  pub came : deadline ≤ now

-- this pair of deadline and slot is not after the other
abbrev pub IsNotAfter : ℕ → ℕ → ℕ → ℕ → Type 0
IsNotAfter deadline slot other_deadline other =
    (deadline < other_deadline) ⊎ ((deadline ≡ other_deadline) × (slot ≤ other))

-- Nothing was due, and nothing but the two moments changed.
pub record NothingDue (old : Timer) (now : ℕ) (new : Timer) : Type 0 where
  pub none : (slot deadline : ℕ) → IsDue old.deadlines now slot deadline → ⊥
  pub new_is : new ≡ record { deadlines = old.deadlines; last = now; swept = now }

-- The slot was the first one that was due. It has no deadline any more.
pub record SlotDue (old : Timer) (now slot : ℕ) (new : Timer) : Type 0 where
  pub deadline : ℕ
  pub due : IsDue old.deadlines now slot deadline
  pub first : (other other_deadline : ℕ) → IsDue old.deadlines now other other_deadline
      → IsNotAfter deadline slot other_deadline other
  pub new_is : new
      ≡ record { deadlines = slice_set old.deadlines slot None; last = now; swept = old.swept }

abbrev pub Due : Timer → ℕ → Option ℕ → Timer → Type 0
Due old now None new = NothingDue old now new
Due old now (Some slot) new = SlotDue old now slot new
