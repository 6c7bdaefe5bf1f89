-- What became of a line that was written without waiting for a reader.
use Rattle.std.specs.Prelude.{◌≡◌, ◌<◌, ℕ, List, length, take, Bool, true, false, Option, Some, None, Result, Ok, Err}
use Rattle.std.specs.Io.KnownBytes.{Appends, Keeps}
use Rattle.booth_real.specs.declared.outlet.Unwritten.{Unwritten}
use Rattle.booth_real.specs.declared.outlet.Unwritten.TheVariants.{Full, Cut, Failed}

-- What a stream took of a line, compared with the answer: the whole line, a number of bytes of its beginning, or
-- nothing.
abbrev pub IsWritten : Option (List ℕ) → List ℕ → Result (Unit {0}) Unwritten → Option (List ℕ) → Type 0
IsWritten before line (Ok done) after = Appends before after line
IsWritten before line (Err Full) after = Keeps before after
IsWritten before line (Err (Cut count)) after = (count < length line) × Appends before after (take count line)
IsWritten before line (Err Failed) after = Keeps before after

-- The answer is that a write would have waited if and only if it would have.
abbrev pub SaysFull : Option Bool → Result (Unit {0}) Unwritten → Type 0
SaysFull None result = Unit {0}
SaysFull (Some false) result = result ≡ Err Full
SaysFull (Some true) result = result ≡ Err Full → ⊥
