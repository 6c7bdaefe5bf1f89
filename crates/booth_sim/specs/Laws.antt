-- The laws of every simulation.
use Rattle.std.specs.Prelude.{◌≡◌, ◌≤◌, ℕ, List}
use Rattle.booth_conf.specs.Config.{ConfigSays}
use Rattle.booth_conf.specs.Sound.{IsSound}
use Rattle.booth_node.specs.World.{WorldEntry, IsWorld}
use Rattle.booth_sim.specs.declared.summary.TheConstants.{MOST_EVENTS}
use Rattle.booth_sim.specs.declared.summary.Summary.{Summary}
use Rattle.booth_sim.specs.Counts.{summary_of}
use Rattle.booth_sim.specs.Simulation.{IsSimulation, world_of}

-- The entries of a simulation are a world.
abbrev pub SimulationsAreWorlds : Type 0
SimulationsAreWorlds =
    (config : ConfigSays) → IsSound config → (number events : ℕ) → events ≤ MOST_EVENTS
    → (entries : List WorldEntry) → IsSimulation config number events entries → IsWorld (world_of config entries)

-- Two simulations of the same configuration, seed and number of events are equal.
abbrev pub OneSimulation : Type 0
OneSimulation =
    (config : ConfigSays) (number events : ℕ) (one other : List WorldEntry)
    → IsSimulation config number events one → IsSimulation config number events other → one ≡ other

-- Two sites never hold an automatic ticket at the same time after an event of a simulation.
abbrev pub AtMostOneHolds : Type 0
AtMostOneHolds =
    (config : ConfigSays) → IsSound config → (number events : ℕ) → events ≤ MOST_EVENTS
    → (entries : List WorldEntry) → IsSimulation config number events entries
    → (summary_of config events number entries).most_holders ≤ 1

-- The summary has the numbers of the simulation, and the entries of the simulation are a world.
pub record IsSummary (config : ConfigSays) (events number : ℕ) (summary : Summary) : Type 0 where
  pub entries : List WorldEntry
  pub simulation : IsSimulation config number events entries
  pub counts : summary ≡ summary_of config events number entries
  pub world : IsWorld (world_of config entries)
