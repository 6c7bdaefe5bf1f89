-- What a journal writes.
use Rattle.std.specs.Prelude.{◌≡◌, ◌≤◌, ℕ, List, [], ◌∷◌, ◌++◌, true, false, Option}
use Rattle.booth_host.specs.Causes.{Rose}
use Rattle.booth_host.specs.declared.entry.Entry.{Entry}
use Rattle.booth_journal.specs.Held.{HoldsMore, HoldsPart}
use Rattle.booth_journal.specs.Lines.{answer_line, call_line, said}
use Rattle.booth_journal.specs.declared.journal.Journal.{Journal}

-- These bytes were written as long as no append failed; after a failed append nothing was written.
pub record Wrote {S : Type 0} (held : S → Option (List ℕ)) (faults : S → ℕ) (old new : Journal S) (bytes : List ℕ)
    : Type 0 where
  pub whole : new.failed ≡ false → (old.failed ≡ false) × HoldsMore (held old.sink) (held new.sink) bytes
  pub part : old.failed ≡ false → new.failed ≡ true
      → HoldsPart (held old.sink) (held new.sink) bytes × Rose (faults old.sink) (faults new.sink)
  pub nothing : old.failed ≡ true → (new.failed ≡ true) × (new.sink ≡ old.sink)
  pub later : faults old.sink ≤ faults new.sink

-- ---- the order of a call and its lines

-- A journal, and each journaled call so far: the host inside after it, and the journal while it was made.
abbrev pub Ordered : Type 0 → Type 0 → Type 0
Ordered H S = Journal S × List (H × Journal S)

-- One call of the host inside was made, after which it is `host`. Before the call exactly the line of the call was
-- written, and after the call exactly the line of its answer.
pub record IsOrdered {H S : Type 0} (held : S → Option (List ℕ)) (faults : S → ℕ) (old new : Ordered H S) (host : H)
    (entry : Entry) : Type 0 where
  pub during : Journal S
  pub noted : new.1 ≡ old.1 ++ (host, during) ∷ []
  pub before : Wrote held faults old.0 during (call_line (said entry))
  pub after : Wrote held faults during new.0 (answer_line (said entry))
