-- What a walk over the buckets collects, and what remains of a timer after its due slots were taken.
use Rattle.std.specs.Prelude.{◌≡◌, ◌⊎◌, ℕ, ◌/◌, nat_le, nat_eq, if◌then◌else◌, List, [], ◌∷◌, map, slice_index_or, slice_set, Option, Some, None}
use Rattle.std.specs.List.{Contains, count_by}
use Rattle.std.specs.Ordering.{nat_cmp, ordering_then}
use Rattle.std.specs.declared.cmp.Ordering.{Ordering}
use Rattle.booth_chain.specs.Wheel.{Timer, IsDue}
use Rattle.booth_chain.specs.Slots.{bucket_of}
use Rattle.booth_chain.specs.Search.{bucket_after}
use Rattle.booth_chain.specs.declared.buckets.TheConstants.{SPAN_MS}

-- a slot's deadline if it has not come, and None if it has
abbrev pub undue : ℕ → Option ℕ → Option ℕ
undue now None = None
undue now (Some deadline) = if nat_le deadline now then None else Some deadline

-- the timer after all due slots were taken; at that reading no slot is due any more
abbrev pub drained : Timer → ℕ → Timer
drained timer now =
    record { deadlines = map (undue now) timer.deadlines; last = now; swept = now }

-- the slot, if its deadline has come
abbrev pub added_at : ℕ → ℕ → Option ℕ → List ℕ
added_at now slot None = []
added_at now slot (Some deadline) = if nat_le deadline now then slot ∷ [] else []

-- the slot's deadline is in the bucket that is `step` buckets after the bucket of the latest moment at which nothing
-- was due
abbrev pub IsAfter : Timer → ℕ → ℕ → Type 0
IsAfter timer step slot = bucket_of timer.swept (slice_index_or timer.deadlines slot None)
    ≡ bucket_after (timer.swept / SPAN_MS) step

-- how many slots have their deadline in that bucket
abbrev pub count_after : Timer → ℕ → ℕ
count_after timer step =
    count_by (λ deadline. nat_eq (bucket_of timer.swept deadline)
    (bucket_after (timer.swept / SPAN_MS) step)) timer.deadlines

-- Of the seen slots, exactly the due ones were added.
pub record Collects (seen : ℕ → Type 0) (deadlines : List (Option ℕ)) (now : ℕ) (old new : List ℕ)
    : Type 0 where
  pub kept : (slot : ℕ) → Contains old slot → Contains new slot
  pub added : (slot deadline : ℕ) → seen slot → IsDue deadlines now slot deadline
      → Contains new slot
  pub only : (slot : ℕ) → Contains new slot
      → Contains old slot ⊎ ((deadline : ℕ) × IsDue deadlines now slot deadline)

-- These slots are exactly those that are due.
pub record AreDue (deadlines : List (Option ℕ)) (now : ℕ) (slots : List ℕ) : Type 0 where
  pub all : (slot deadline : ℕ) → IsDue deadlines now slot deadline → Contains slots slot
  pub only : (slot : ℕ) → Contains slots slot
      → (deadline : ℕ) × IsDue deadlines now slot deadline

abbrev pub number_of : Option ℕ → ℕ
number_of None = 0
number_of (Some deadline) = deadline

-- the order of slots by deadline and then slot
abbrev pub by_deadline : List (Option ℕ) → ℕ → ℕ → Ordering
by_deadline deadlines slot other = ordering_then
    (nat_cmp (number_of (slice_index_or deadlines slot None))
    (number_of (slice_index_or deadlines other None)))
    (nat_cmp slot other)

-- the deadlines after these slots were cleared
abbrev pub cleared : List ℕ → List (Option ℕ) → List (Option ℕ)
cleared [] deadlines = deadlines
cleared (slot ∷ rest) deadlines = cleared rest (slice_set deadlines slot None)
