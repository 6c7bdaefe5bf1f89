-- The calls of `boothd status`, and the text that it then prints on standard error.
use Rattle.std.specs.Prelude.{◌≡◌, ℕ, Bool, true, false, List, [], ◌∷◌, Ok, Err, codes, T}
use Rattle.booth_host.specs.declared.host.Failed.{Failed}
use Rattle.booth_host.specs.declared.entry.Entry.{Entry}
use Rattle.booth_host.specs.declared.entry.Entry.TheVariants.{Lock, Out}
use Rattle.booth_outcomes.specs.declared.outcome.Outcome.{Outcome}
use Rattle.booth_outcomes.specs.declared.outcome.Outcome.TheVariants.{Done, NotRunning, LockFault, PrintFault}
use Rattle.booth_outcomes.specs.Texts.{unlocked_text, unprinted_text}

-- The output for a lock that was free, and for a lock that another process has.
abbrev pub status_text : Bool → List ℕ
status_text true = codes "booth daemon is not running\n"
status_text false = codes "booth daemon is running\n"

-- The one call for the lock, and the one print of its answer. The outcome is Done exactly if another process has the
-- lock and this was printed. It is NotRunning exactly if the lock was free and this was printed.
abbrev pub IsStatus : List ℕ → Outcome → List ℕ → List Entry → Type 0
IsStatus lock Done said entries = (said ≡ [])
    × (entries ≡ Lock lock (Ok false) ∷ Out (status_text false) (Ok tt) ∷ [])
IsStatus lock NotRunning said entries = (said ≡ [])
    × (entries ≡ Lock lock (Ok true) ∷ Out (status_text true) (Ok tt) ∷ [])
IsStatus lock LockFault said entries = (said ≡ unlocked_text lock)
    × (failed : Failed) × (entries ≡ Lock lock (Err failed) ∷ [])
IsStatus lock PrintFault said entries = (said ≡ unprinted_text) × (free : Bool) × (failed : Failed)
    × (entries ≡ Lock lock (Ok free) ∷ Out (status_text free) (Err failed) ∷ [])
IsStatus lock outcome said entries = ⊥

-- The outcomes of `boothd status`.
abbrev pub is_status_outcome : Outcome → Bool
is_status_outcome Done = true
is_status_outcome NotRunning = true
is_status_outcome LockFault = true
is_status_outcome PrintFault = true
is_status_outcome outcome = false

abbrev pub IsStatusOutcome : Outcome → Type 0
IsStatusOutcome outcome = T (is_status_outcome outcome)

-- ---- in the code

abbrev pub found : Bool → Outcome
found true = NotRunning
found false = Done

-- The print after the lock's answer.
abbrev pub IsPrinted : Bool → Outcome → List ℕ → List Entry → Type 0
IsPrinted free PrintFault said entries = (said ≡ unprinted_text) × (failed : Failed)
    × (entries ≡ Out (status_text free) (Err failed) ∷ [])
IsPrinted free outcome said entries = (outcome ≡ found free) × (said ≡ [])
    × (entries ≡ Out (status_text free) (Ok tt) ∷ [])
