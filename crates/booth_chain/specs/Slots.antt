-- How a timer's slots are stored in its pool: each in the list of its deadline's bucket. No public clause cites this
-- module.
use Rattle.std.specs.Prelude.{◌≡◌, ◌⊎◌, ℕ, ◌+◌, ◌/◌, ◌%◌, ◌<◌, ◌≤◌, ◌^◌, max, nat_eq, List, [], ◌∷◌, length, map, slice_index_or, replicate, Option, Some, None}
use Rattle.std.specs.List.{count_by}
use Rattle.booth_chain.specs.Pool.{Pool, items_at}
use Rattle.booth_chain.specs.Wheel.{Timer}
use Rattle.booth_chain.specs.declared.slot.Slot.{Slot}
use Rattle.booth_chain.specs.declared.buckets.TheConstants.{SPAN_MS, BUCKETS, UNSET, LISTS}

-- The list of a deadline. A deadline that is not after the latest moment at which nothing was due is in that moment's
-- bucket. The last list has the slots without a deadline.
abbrev pub bucket_of : ℕ → Option ℕ → ℕ
bucket_of swept None = UNSET
bucket_of swept (Some deadline) = (max deadline swept / SPAN_MS) % BUCKETS

-- the item is at this node among these
abbrev pub IsIn : ℕ → ℕ → List (ℕ × ℕ) → Type 0
IsIn node item [] = ⊥
IsIn node item (entry ∷ rest) = ((node ≡ entry.0) × (item ≡ entry.1)) ⊎ IsIn node item rest

abbrev pub deadlines_of : List Slot → List (Option ℕ)
deadlines_of slots = map (λ (slot : Slot). slot.deadline) slots

abbrev pub deadline_at : List Slot → ℕ → Option ℕ
deadline_at slots slot = slice_index_or (deadlines_of slots) slot None

abbrev pub node_at : List Slot → ℕ → ℕ
node_at slots slot = slice_index_or (map (λ (slot : Slot). slot.node) slots) slot 0

-- Each slot is in the list of its bucket, and nothing else is in any list.
pub record IsBucketed (pool : Pool ℕ) (slots : List Slot) (swept : ℕ) : Type 0 where
  pub lists : length pool.lists ≡ LISTS
  pub few : length slots < 2 ^ 32
  pub stands : (slot : ℕ) → slot < length slots
      → IsIn (node_at slots slot) slot (items_at pool (bucket_of swept (deadline_at slots slot)))
  pub known : (list node item : ℕ) → IsIn node item (items_at pool list) → item < length slots
  pub counted : (list : ℕ) → length (items_at pool list)
      ≡ count_by (λ deadline. nat_eq (bucket_of swept deadline) list) (deadlines_of slots)

-- the timer that a contract sees for these fields
abbrev pub timer_of : List Slot → ℕ → ℕ → Timer
timer_of slots last swept = record { deadlines = deadlines_of slots; last = last; swept = swept }

pub record IsKept (pool : Pool ℕ) (slots : List Slot) (last swept : ℕ) : Type 0 where
  pub bucketed : IsBucketed pool slots swept
  pub order : swept ≤ last

-- The first `many` of these slots are in the pool, none with a deadline.
pub record AreUnset (pool : Pool ℕ) (slots : List Slot) (many all : ℕ) : Type 0 where
  pub bucketed : IsBucketed pool slots 0
  pub none : deadlines_of slots ≡ replicate many None
  pub many_are : length slots ≡ many
  pub spare : pool.spare + many ≡ all
