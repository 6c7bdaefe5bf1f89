-- The calls of `boothd sim`, and the text that it prints.
use Rattle.std.specs.Prelude.{◌≡◌, ◌++◌, ◌≤◌, ℕ, List, [], ◌∷◌, Option, Some, None, IsSome, Result, Ok, Err, codes, decimal}
use Rattle.booth_conf.specs.Config.{ConfigSays}
use Rattle.booth_conf.specs.Says.{Says}
use Rattle.booth_host.specs.declared.host.Failed.{Failed}
use Rattle.booth_host.specs.declared.entry.Entry.{Entry}
use Rattle.booth_host.specs.declared.entry.Entry.TheVariants.{Out, ReadFile}
use Rattle.booth_sim.specs.Laws.{IsSummary}
use Rattle.booth_sim.specs.declared.summary.Summary.{Summary}
use Rattle.booth_cli.specs.declared.asking.SimulationWords.{SimulationWords}
use Rattle.booth_outcomes.specs.declared.outcome.Outcome.{Outcome}
use Rattle.booth_outcomes.specs.declared.outcome.Outcome.TheVariants.{Done, PrintFault, OutOfMemory}
use Rattle.booth_outcomes.specs.declared.outcome.Outcome.TheVariants.{ConfUnread, ConfBad}
use Rattle.booth_outcomes.specs.declared.outcome.Ended.{Ended}
use Rattle.booth_outcomes.specs.Configuration.{IsUnread}
use Rattle.booth_outcomes.specs.Texts.{out_of_memory_text, unprinted_text}

-- The example: two sites, an arbitrator, and a ticket with the default times.
abbrev pub example_text : List ℕ
example_text =
    codes "site=\"192.168.201.100\"\nsite=\"192.168.202.100\"\narbitrator=\"192.168.203.100\"\nticket=\"ticket-db8\"\n"

-- ---- the output

abbrev pub row_text : List ℕ → ℕ → List ℕ
row_text name number = name ++ codes ": " ++ decimal number ++ codes "\n"

-- The text with the counts of the cluster.
abbrev pub cluster_text : Summary → List ℕ
cluster_text summary =
    row_text (codes "events") summary.events
    ++ row_text (codes "number") summary.number
    ++ row_text (codes "delivered") summary.delivered
    ++ row_text (codes "restarts") summary.restarts

-- The text with the counts of its tickets.
abbrev pub ticket_text : Summary → List ℕ
ticket_text summary =
    row_text (codes "gains") summary.gains
    ++ row_text (codes "releases") summary.releases
    ++ row_text (codes "greatest term") summary.greatest_term
    ++ row_text (codes "most holders at one moment") summary.most_holders

abbrev pub summary_text : Summary → List ℕ
summary_text summary = cluster_text summary ++ ticket_text summary

-- ---- the calls

-- The configuration of a simulation. If the arguments name a configuration, it was read; otherwise it is the example.
abbrev pub IsChosen : Option (List ℕ) → ConfigSays → List Entry → Type 0
IsChosen None config entries = Says example_text config × (entries ≡ [])
IsChosen (Some path) config entries =
    (text : List ℕ) × (entries ≡ ReadFile path (Ok text) ∷ []) × Says text config

-- The configuration could not be read, or has a fault. The example has no fault, so only memory for it may be out.
abbrev pub IsUnchosen : Option (List ℕ) → Outcome → List ℕ → List Entry → Type 0
IsUnchosen None outcome said entries = (outcome ≡ OutOfMemory) × (said ≡ out_of_memory_text) × (entries ≡ [])
IsUnchosen (Some path) outcome said entries = IsUnread path outcome said entries

-- The end of a simulation: its summary was printed, or could not be printed, or the memory ran out.
abbrev pub IsSummed : ConfigSays → SimulationWords → Outcome → List ℕ → List Entry → Type 0
IsSummed config asked Done said entries = (said ≡ [])
    × (summary : Summary) × IsSummary config asked.events asked.number summary × (summary.most_holders ≤ 1)
    × (entries ≡ Out (summary_text summary) (Ok tt) ∷ [])
IsSummed config asked PrintFault said entries = (said ≡ unprinted_text)
    × (summary : Summary) × IsSummary config asked.events asked.number summary × (summary.most_holders ≤ 1)
    × (failed : Failed) × (entries ≡ Out (summary_text summary) (Err failed) ∷ [])
IsSummed config asked OutOfMemory said entries = (said ≡ out_of_memory_text) × (entries ≡ [])
IsSummed config asked outcome said entries = ⊥

-- The calls of the simulation, up to the call that decides its outcome.
pub data IsSimulated (asked : SimulationWords) (outcome : Outcome) (said : List ℕ) (entries : List Entry) : Type 0 where
  Unchosen : IsUnchosen asked.conf outcome said entries → IsSimulated asked outcome said entries
  Simulated : (config : ConfigSays) (chosen rest : List Entry) → IsChosen asked.conf config chosen →
      IsSummed config asked outcome said rest → entries ≡ chosen ++ rest → IsSimulated asked outcome said entries

-- The outcomes of a simulation. The outcomes of a file come only if the arguments name one.
abbrev pub IsSimulationEnd : Option (List ℕ) → Outcome → Type 0
IsSimulationEnd conf Done = Unit {0}
IsSimulationEnd conf PrintFault = Unit {0}
IsSimulationEnd conf OutOfMemory = Unit {0}
IsSimulationEnd conf ConfUnread = IsSome conf
IsSimulationEnd conf (ConfBad fault) = IsSome conf
IsSimulationEnd conf outcome = ⊥

-- ---- in the code

-- The simulation has a configuration, or this is how it ends without one.
abbrev pub IsConfigChosen : Option (List ℕ) → Result ConfigSays Ended → List Entry → Type 0
IsConfigChosen conf (Ok config) entries = IsChosen conf config entries
IsConfigChosen conf (Err ended) entries = IsUnchosen conf ended.outcome ended.said entries

-- The end of a simulation if the memory has run out.
pub record HasNoMemory (ended : Ended) : Type 0 where
  pub outcome : ended.outcome ≡ OutOfMemory
  pub said : ended.said ≡ out_of_memory_text

-- The call that prints the counts, and the outcome.
abbrev pub IsPrinted : Summary → Outcome → List ℕ → List Entry → Type 0
IsPrinted summary Done said entries = (said ≡ []) × (entries ≡ Out (summary_text summary) (Ok tt) ∷ [])
IsPrinted summary PrintFault said entries = (said ≡ unprinted_text) × (failed : Failed)
    × (entries ≡ Out (summary_text summary) (Err failed) ∷ [])
IsPrinted summary outcome said entries = ⊥
