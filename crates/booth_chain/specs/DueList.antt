-- The due list: the slots whose deadline has come, by deadline and then slot.
use Rattle.std.specs.Prelude.{◌≡◌, ℕ, ◌+◌, Bool, true, ◌&&◌, nat_lt, nat_le, nat_eq, if◌then◌else◌, List, [], ◌∷◌, Option, Some, None}

-- this deadline and slot come before the others
abbrev pub comes_before : ℕ → ℕ → ℕ → ℕ → Bool
comes_before deadline slot other_deadline other =
    if nat_lt deadline other_deadline then true
    else (nat_eq deadline other_deadline && nat_lt slot other)

-- a deadline and slot inserted at their place in a sorted list
abbrev pub placed : ℕ → ℕ → List (ℕ × ℕ) → List (ℕ × ℕ)
placed deadline slot [] = (deadline, slot) ∷ []
placed deadline slot (entry ∷ rest) =
    if comes_before deadline slot entry.0 entry.1
    then (deadline, slot) ∷ entry ∷ rest
    else entry ∷ placed deadline slot rest

-- the due slots among these, the first of which has this number
abbrev pub due_from : ℕ → ℕ → List (Option ℕ) → List (ℕ × ℕ)
due_from now slot [] = []
due_from now slot (None ∷ rest) = due_from now (slot + 1) rest
due_from now slot (Some deadline ∷ rest) =
    if nat_le deadline now
    then placed deadline slot (due_from now (slot + 1) rest)
    else due_from now (slot + 1) rest

abbrev pub due_list : ℕ → List (Option ℕ) → List (ℕ × ℕ)
due_list now deadlines = due_from now 0 deadlines

-- the slot was the first of the due list, and the rest remains; or the list was empty
abbrev pub Drains : List (ℕ × ℕ) → Option ℕ → List (ℕ × ℕ) → Type 0
Drains old None new = (old ≡ []) × (new ≡ [])
Drains old (Some slot) new = (deadline : ℕ) × (old ≡ (deadline, slot) ∷ new)

abbrev pub DrainsDue : List (Option ℕ) → ℕ → Option ℕ → List (Option ℕ) → Type 0
DrainsDue old now slot new = Drains (due_list now old) slot (due_list now new)
