-- The seats of a configuration, by the ids of its members. The test whether two lists of members are one step apart.
-- The time to wait before the step after the next one.
use Rattle.std.specs.Prelude.{◌≡◌, ℕ, suc, ◌+◌, ◌<◌, ◌≤◌, ◌-◌, ◌*◌, ◌==◌, not, nat_lt, count_by, true, if◌then◌else◌, Bool, List, [], ◌∷◌, length, slice_index}
use Rattle.std.specs.List.{list_any}
use Rattle.booth_base.specs.Times.{promise_of}
use Rattle.booth_base.specs.declared.times.Times.{Times}
use Rattle.booth_node.specs.Clock.{IsClock}
use Rattle.booth_world.specs.Facts.{fewest, Seats, MajoritiesMeet}

-- The place of an id in a list. If the list does not have the id, this is the list's length.
abbrev pub index_of : List ℕ → ℕ → ℕ
index_of [] id = 0
index_of (x ∷ xs) id = if x == id then 0 else suc (index_of xs id)

abbrev pub is_same : ℕ → ℕ → Bool
is_same id other = other == id

abbrev pub has_id : List ℕ → ℕ → Bool
has_id ids id = list_any (is_same id) ids

abbrev pub is_added : List ℕ → ℕ → Bool
is_added old id = not (has_id old id)

-- The seats of a configuration with the list `own` of members, in a cluster whose members have the ids `all`.
abbrev pub seats_in : List ℕ → List ℕ → Seats
seats_in all own = record {
  size = length own;
  number = λ place. index_of all (slice_index own place);
  place = λ m. index_of own (slice_index all m);
}

-- No id is in the list twice.
abbrev pub AreDistinct : List ℕ → Type 0
AreDistinct ids = (i j : ℕ) → i < length ids → j < length ids → slice_index ids i ≡ slice_index ids j → i ≡ j

-- Each id of the list `own` is in the list `all`.
abbrev pub AreAmong : List ℕ → List ℕ → Type 0
AreAmong own all = (place : ℕ) → place < length own → index_of all (slice_index own place) < length all

-- The number of members that are in the new list and not in the old one.
abbrev pub added : List ℕ → List ℕ → ℕ
added old new = count_by (is_added old) new

-- Two lists are one step apart if all their members together are fewer than the smallest majorities of both.
abbrev pub is_list_step : List ℕ → List ℕ → Bool
is_list_step old new = nat_lt (length old + added old new) (fewest (length old) + fewest (length new))

-- A wait of this length by any clock includes a promise and a millisecond by the slowest clock.
abbrev pub IsLongEnough : Times → ℕ → Type 0
IsLongEnough times wait = 1001000 * (promise_of times + 1) ≤ 999000 * (wait - 1)

-- If the lists have no id twice, each place of the configuration belongs to another member of the cluster.
abbrev pub ListsAreSeats : Type 0
ListsAreSeats =
    (all : List ℕ) → AreDistinct all → (own : List ℕ) → AreDistinct own → AreAmong own all
    → (place : ℕ) → place < length own
    → ((seats_in all own).number place < length all)
    × ((seats_in all own).place ((seats_in all own).number place) ≡ place)

-- If two lists are one step apart, the majorities of both configurations meet.
abbrev pub ListStepsMeet : Type 0
ListStepsMeet =
    (all : List ℕ) → AreDistinct all → (old new : List ℕ) → is_list_step old new ≡ true
    → MajoritiesMeet (length all) (seats_in all old) (seats_in all new)

-- If a clock has counted the wait between two true times, the slowest clock has counted a promise and a millisecond.
abbrev pub WaitIsEnough : Type 0
WaitIsEnough =
    (ticks : ℕ) (clock : List ℕ) (times : Times) (wait early late : ℕ) → IsClock ticks clock
    → early ≤ late → late < length clock → IsLongEnough times wait → slice_index clock early + wait ≤ slice_index clock late
    → 1000000 * (ticks * (promise_of times + 1)) ≤ 999000 * (late - early)
