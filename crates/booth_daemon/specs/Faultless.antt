-- Runs in which the environment does not fail, and the arguments and files are valid.
use Rattle.std.specs.Prelude.{◌≡◌, ℕ, true, List, Contains, Option, Some, Ok, Err, false, Bool, T}
use Rattle.booth_base.specs.declared.address.Address.{Address}
use Rattle.booth_conf.specs.Config.{ConfigSays}
use Rattle.booth_conf.specs.Says.{Says}
use Rattle.booth_host.specs.declared.host.Failed.{Failed}
use Rattle.booth_host.specs.declared.host.ReadFault.TheVariants as reads
use Rattle.booth_host.specs.declared.entry.Entry.{Entry}
use Rattle.booth_host.specs.declared.entry.Entry.TheVariants.{Open, ReadFile, Lock, Kept, Out}
use Rattle.booth_cli.specs.declared.command.Verb.TheVariants as verbs
use Rattle.booth_outcomes.specs.declared.outcome.Outcome.{Outcome}
use Rattle.booth_outcomes.specs.declared.outcome.Outcome.TheVariants.{AuditBad, Done, TurnsSpent, NotRunning}
use Rattle.booth_outcomes.specs.declared.outcome.Outcome.TheVariants.{OutOfMemory}
use Rattle.booth_cli.specs.declared.asking.AuditWords.{AuditWords}
use Rattle.booth_cli.specs.declared.asking.DaemonWords.{DaemonWords}
use Rattle.booth_cli.specs.declared.asking.SimulationWords.{SimulationWords}
use Rattle.booth_cli.specs.declared.program.Program.TheVariants.{Boothd}
use Rattle.booth_cli.specs.Asking.{AsksAudit, AsksDaemon, AsksSimulation}
use Rattle.booth_cli.specs.Valid.{AreValid}
use Rattle.booth_outcomes.specs.Keys.{IsKeyFile, NamesKeyFile}
use Rattle.booth_daemon.specs.Fitness.{has_member}
use Rattle.booth_daemon.specs.Run.{IsRun}

-- ---- a daemon

-- The text spells a configuration that has a member at this address.
pub record IsValid (address : Address) (text : List ℕ) : Type 0 where
  pub config : ConfigSays
  pub says : Says text config
  pub member : has_member config address ≡ true

-- No file, lock, socket or record failed, and the lock was free. The file at the path spells a configuration with
-- this member, and the key file that it names holds a key.
pub record IsFaultless (asked : DaemonWords) (entries : List Entry) : Type 0 where
  pub read : (file : List ℕ) → Contains entries (ReadFile file (Err reads.Failed)) → ⊥
  pub valid : (text : List ℕ) → Contains entries (ReadFile asked.conf (Ok text)) →
      IsValid asked.site text
  pub keyed : (text file key_text : List ℕ) (config : ConfigSays) → Contains entries
      (ReadFile asked.conf (Ok text)) → Says text config →
      NamesKeyFile config file → Contains entries (ReadFile file (Ok key_text)) → IsKeyFile key_text
  pub locked : (lock : List ℕ) (failed : Failed) → Contains entries (Lock lock (Err failed)) → ⊥
  pub free : (lock : List ℕ) → Contains entries (Lock lock (Ok false)) → ⊥
  pub opened : (local : Option Address) (port : ℕ) (records conf : List ℕ) (failed : Failed) →
      Contains entries (Open local port records conf (Err failed)) → ⊥
  pub kept : (ticket : List ℕ) (failed : Failed) → Contains entries (Kept ticket (Err failed)) → ⊥

-- The outcomes without a fault.
abbrev pub ends_well : Outcome → Bool
ends_well Done = true
ends_well TurnsSpent = true
ends_well OutOfMemory = true
ends_well outcome = false

abbrev pub EndsWell : Outcome → Type 0
EndsWell outcome = T (ends_well outcome)

-- A run of a daemon with these arguments is faultless.
abbrev pub AreFaultless : List (List ℕ) → List Entry → Type 0
AreFaultless words entries = (asked : DaemonWords) → AsksDaemon words asked → IsFaultless asked entries

-- Valid arguments, valid files, a free lock and an environment that does not fail give Done, TurnsSpent or
-- OutOfMemory.
abbrev pub FaultlessRuns : Type 0
FaultlessRuns = (words : List (List ℕ)) (outcome : Outcome) (entries : List Entry) →
    AreValid Boothd words verbs.Daemon → IsRun words outcome entries → AreFaultless words entries →
    EndsWell outcome

-- ---- a simulation

-- The file at the path of the configuration spells one, and neither a read nor a print failed.
pub record IsFaultlessFor (asked : SimulationWords) (entries : List Entry) : Type 0 where
  pub read : (file : List ℕ) → Contains entries (ReadFile file (Err reads.Failed)) → ⊥
  pub valid : (path text : List ℕ) → asked.conf ≡ Some path → Contains entries (ReadFile path (Ok text)) →
      (config : ConfigSays) × Says text config
  pub printed : (text : List ℕ) (failed : Failed) → Contains entries (Out text (Err failed)) → ⊥

abbrev pub is_summed_well : Outcome → Bool
is_summed_well Done = true
is_summed_well OutOfMemory = true
is_summed_well outcome = false

abbrev pub Sums : Outcome → Type 0
Sums outcome = T (is_summed_well outcome)

-- Valid arguments, a valid file and an environment that does not fail give Done or OutOfMemory.
abbrev pub FaultlessSimulations : Type 0
FaultlessSimulations = (words : List (List ℕ)) (outcome : Outcome) (entries : List Entry) →
    AreValid Boothd words verbs.Simulate → IsRun words outcome entries →
    ((asked : SimulationWords) → AsksSimulation words asked → IsFaultlessFor asked entries) → Sums outcome

-- ---- an audit

-- The file at the path of the configuration spells one, the key file that it names holds a key, and neither a read
-- nor a print failed.
pub record IsFaultlessAudit (asked : AuditWords) (entries : List Entry) : Type 0 where
  pub read : (file : List ℕ) → Contains entries (ReadFile file (Err reads.Failed)) → ⊥
  pub valid : (text : List ℕ) → Contains entries (ReadFile asked.conf (Ok text)) →
      (config : ConfigSays) × Says text config
  pub keyed : (text file key_text : List ℕ) (config : ConfigSays) → Contains entries
      (ReadFile asked.conf (Ok text)) → Says text config →
      NamesKeyFile config file → Contains entries (ReadFile file (Ok key_text)) → IsKeyFile key_text
  pub printed : (text : List ℕ) (failed : Failed) → Contains entries (Out text (Err failed)) → ⊥

abbrev pub is_audited_well : Outcome → Bool
is_audited_well Done = true
is_audited_well (AuditBad fault) = true
is_audited_well OutOfMemory = true
is_audited_well outcome = false

abbrev pub Audits : Outcome → Type 0
Audits outcome = T (is_audited_well outcome)

-- Valid arguments, a valid file, its keys and an environment that does not fail give Done, AuditBad or OutOfMemory.
abbrev pub FaultlessAudits : Type 0
FaultlessAudits = (words : List (List ℕ)) (outcome : Outcome) (entries : List Entry) →
    AreValid Boothd words verbs.Audit → IsRun words outcome entries →
    ((asked : AuditWords) → AsksAudit words asked → IsFaultlessAudit asked entries) → Audits outcome

-- ---- `boothd status`

-- Neither the lock nor a print failed.
pub record IsUnfailing (entries : List Entry) : Type 0 where
  pub locked : (lock : List ℕ) (failed : Failed) → Contains entries (Lock lock (Err failed)) → ⊥
  pub printed : (text : List ℕ) (failed : Failed) → Contains entries (Out text (Err failed)) → ⊥

abbrev pub is_told_well : Outcome → Bool
is_told_well Done = true
is_told_well NotRunning = true
is_told_well OutOfMemory = true
is_told_well outcome = false

abbrev pub Tells : Outcome → Type 0
Tells outcome = T (is_told_well outcome)

-- Valid arguments and an environment that does not fail give Done, NotRunning or OutOfMemory.
abbrev pub FaultlessLooks : Type 0
FaultlessLooks = (words : List (List ℕ)) (outcome : Outcome) (entries : List Entry) →
    AreValid Boothd words verbs.Status → IsRun words outcome entries → IsUnfailing entries → Tells outcome
