-- A timer whose slots are all set to one far deadline.
use Rattle.std.specs.Prelude.{◌≡◌, ℕ, ◌<◌, List, length, slice_index_or, Option, Some, None}
use Rattle.trials.specs.declared.asking.TheConstants.{DEADLINE}

-- each of the first slots, this many, has that deadline
abbrev pub AreFarBelow : ℕ → List (Option ℕ) → Type 0
AreFarBelow slots deadlines =
    (slot : ℕ) → slot < slots → slice_index_or deadlines slot None ≡ Some DEADLINE

-- each slot has it
abbrev pub AreFar : List (Option ℕ) → Type 0
AreFar deadlines = AreFarBelow (length deadlines) deadlines
