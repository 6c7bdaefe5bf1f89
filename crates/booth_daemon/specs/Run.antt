-- The calls of a whole run of boothd.
use Rattle.std.specs.Prelude.{◌≡◌, ◌++◌, ◌⊎◌, ℕ, T, List, Some, None, IsSome}
use Rattle.booth_host.specs.declared.entry.Entry.{Entry}
use Rattle.booth_outcomes.specs.declared.outcome.Outcome.{Outcome}
use Rattle.booth_outcomes.specs.declared.outcome.Outcome.TheVariants.{Done, Usage, Shown, BadWord, LockFault, NotRunning}
use Rattle.booth_outcomes.specs.declared.outcome.Outcome.TheVariants.{PrintFault, OutOfMemory, ConfUnread, ConfBad}
use Rattle.booth_outcomes.specs.declared.outcome.Outcome.TheVariants.{KeyUnread, KeyBad, JournalUnread, AuditBad}
use Rattle.booth_outcomes.specs.Outcomes.{is_served}
use Rattle.booth_cli.specs.declared.program.Program.TheVariants.{Boothd}
use Rattle.booth_cli.specs.declared.asking.AuditWords.{AuditWords}
use Rattle.booth_cli.specs.declared.asking.DaemonWords.{DaemonWords}
use Rattle.booth_cli.specs.declared.asking.SimulationWords.{SimulationWords}
use Rattle.booth_cli.specs.Asking.{AsksAudit, AsksDaemon, AsksSimulation, AsksStatus}
use Rattle.booth_cli.specs.Asking.{AsksAbout, AsksNothing, HasBadWord, IsUntaken, NamesCommand}
use Rattle.booth_outcomes.specs.Texts.{IsText}
use Rattle.booth_outcomes.specs.Unasked.{IsRequest, IsUnasked}
use Rattle.booth_daemon.specs.Serving.{IsServing}
use Rattle.booth_daemon.specs.Status.{IsStatus}
use Rattle.booth_daemon.specs.Simulating.{IsSimulated}
use Rattle.booth_daemon.specs.Auditing.{IsAuditing}

-- The calls for these arguments, up to the call that decides the outcome.
pub data IsMade (words : List (List ℕ)) (outcome : Outcome) (said : List ℕ)
    (entries : List Entry) : Type 0 where
  Unasked : IsUnasked Boothd words outcome said entries → IsMade words outcome said entries
  Served : (asked : DaemonWords) → AsksDaemon words asked → IsServing asked outcome said entries →
      IsMade words outcome said entries
  Summed : (asked : SimulationWords) → AsksSimulation words asked → IsSimulated asked outcome said entries →
      IsMade words outcome said entries
  Reviewed : (asked : AuditWords) → AsksAudit words asked → IsAuditing asked outcome said entries →
      IsMade words outcome said entries
  Looked : (lock : List ℕ) → AsksStatus words lock → IsStatus lock outcome said entries →
      IsMade words outcome said entries

-- All calls of a run with these arguments. The last call reports how the run ended.
pub record IsRun (words : List (List ℕ)) (outcome : Outcome) (entries : List Entry) : Type 0 where
  pub said : List ℕ
  pub body : List Entry
  pub last : List Entry
  pub whole : entries ≡ body ++ last
  pub made : IsMade words outcome said body
  pub told : IsText Boothd said last

-- ---- for every host

-- The arguments start a daemon, with any options.
pub record AskForDaemon (words : List (List ℕ)) : Type 0 where
  pub asked : DaemonWords
  pub asks : AsksDaemon words asked

-- The arguments ask for `status`, with any lock.
pub record AskForStatus (words : List (List ℕ)) : Type 0 where
  pub lock : List ℕ
  pub asks : AsksStatus words lock

-- The arguments ask for `sim`, with any options.
pub record AskForSimulation (words : List (List ℕ)) : Type 0 where
  pub asked : SimulationWords
  pub asks : AsksSimulation words asked

-- The arguments ask for `audit`, with any options.
pub record AskForAudit (words : List (List ℕ)) : Type 0 where
  pub asked : AuditWords
  pub asks : AsksAudit words asked

-- The arguments ask for `sim` with a configuration.
pub record AskForNamed (words : List (List ℕ)) : Type 0 where
  pub asked : SimulationWords
  pub asks : AsksSimulation words asked
  pub named : IsSome asked.conf

-- The outcome fits the arguments. Usage comes only for invalid arguments and for requests of a command's help or
-- version, Shown only if the arguments ask for that text, and BadWord exactly if that argument is the first invalid
-- one. Out of memory comes only if there is a command.
abbrev pub FitsWords : List (List ℕ) → Outcome → Type 0
FitsWords words (Usage None) = AsksNothing Boothd words
FitsWords words (Usage (Some kind)) = IsUntaken Boothd words kind
FitsWords words (Shown page) = AsksAbout Boothd words page
FitsWords words (BadWord word) = HasBadWord Boothd words word
FitsWords words Done = AskForDaemon words ⊎ (AskForStatus words ⊎ (AskForSimulation words ⊎ AskForAudit words))
FitsWords words LockFault = AskForDaemon words ⊎ AskForStatus words
FitsWords words NotRunning = AskForStatus words
FitsWords words PrintFault =
    AskForStatus words ⊎ (AskForSimulation words ⊎ (AskForAudit words ⊎ IsRequest Boothd words))
FitsWords words OutOfMemory = NamesCommand Boothd words
FitsWords words ConfUnread = AskForDaemon words ⊎ (AskForNamed words ⊎ AskForAudit words)
FitsWords words (ConfBad fault) = AskForDaemon words ⊎ (AskForNamed words ⊎ AskForAudit words)
FitsWords words KeyUnread = AskForDaemon words ⊎ AskForAudit words
FitsWords words (KeyBad fault) = AskForDaemon words ⊎ AskForAudit words
FitsWords words JournalUnread = AskForAudit words
FitsWords words (AuditBad fault) = AskForAudit words
FitsWords words outcome = T (is_served outcome) × AskForDaemon words
