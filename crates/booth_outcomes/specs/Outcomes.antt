-- The properties of an outcome alone: whether a daemon can have it, and whether the environment failed.
use Rattle.std.specs.Prelude.{ℕ, Bool, true, false, not, T, MatchBool, ⊤}
use Rattle.booth_host.specs.Causes.{Rose}
use Rattle.booth_outcomes.specs.declared.outcome.Outcome.{Outcome}
use Rattle.booth_outcomes.specs.declared.outcome.Outcome.TheVariants.{Done, ConfUnread, ConfBad, NotMember}
use Rattle.booth_outcomes.specs.declared.outcome.Outcome.TheVariants.{KeyUnread, KeyBad, LockFault, Running, OpenFault}
use Rattle.booth_outcomes.specs.declared.outcome.Outcome.TheVariants.{RecordUnread, TurnsSpent, OutOfMemory}
use Rattle.booth_outcomes.specs.declared.outcome.Outcome.TheVariants.{JournalUnread, PrintFault, SendFault}

-- an outcome of a daemon
abbrev pub is_served : Outcome → Bool
is_served Done = true
is_served ConfUnread = true
is_served (ConfBad fault) = true
is_served NotMember = true
is_served KeyUnread = true
is_served (KeyBad fault) = true
is_served LockFault = true
is_served Running = true
is_served OpenFault = true
is_served RecordUnread = true
is_served TurnsSpent = true
is_served OutOfMemory = true
is_served outcome = false

abbrev pub IsServed : Outcome → Type 0
IsServed outcome = T (is_served outcome)

-- an outcome that comes only if the environment failed
abbrev pub has_blame : Outcome → Bool
has_blame ConfUnread = true
has_blame KeyUnread = true
has_blame JournalUnread = true
has_blame LockFault = true
has_blame OpenFault = true
has_blame RecordUnread = true
has_blame PrintFault = true
has_blame SendFault = true
has_blame outcome = false

-- If the environment failed, its count of faults rose.
abbrev pub HasBlame : Outcome → ℕ → ℕ → Type 0
HasBlame outcome before now = MatchBool (has_blame outcome) (Rose before now) ⊤

abbrev pub IsBlameless : Outcome → Type 0
IsBlameless outcome = T (not (has_blame outcome))
