-- What a rule leaves if each of its writes succeeds.
use Rattle.std.specs.Prelude.{ℕ, true, Option, Some, None}
use Rattle.booth_rec.specs.declared.record.Record.{Record}
use Rattle.booth_wire.specs.declared.message.Setup.{Setup}
use Rattle.booth_raft.specs.AskAndRenew.{finish}
use Rattle.booth_raft.specs.Outcome.{Outcome}

-- The outcome after its write, if it has one, succeeded.
abbrev pub kept_by : Setup → ℕ → Option Record → Outcome → Outcome
kept_by setup now None outcome = outcome
kept_by setup now (Some tried) outcome = finish setup outcome.view now true

abbrev pub once_kept : Setup → ℕ → Outcome → Outcome
once_kept setup now outcome = kept_by setup now outcome.deed.keep outcome

-- The outcome after all its writes succeeded. A write of an election or of a renewal may be followed by the write of a
-- lease, and no further one.
abbrev pub all_kept : Setup → ℕ → Outcome → Outcome
all_kept setup now outcome = once_kept setup now (once_kept setup now outcome)

-- The outcome after one write, or after all writes, has this property.
abbrev pub OneKept : Setup → ℕ → (Outcome → Type 0) → Outcome → Type 0
OneKept setup now Holds outcome = Holds (once_kept setup now outcome)

abbrev pub AllKept : Setup → ℕ → (Outcome → Type 0) → Outcome → Type 0
AllKept setup now Holds outcome = Holds (all_kept setup now outcome)
