-- A cluster in memory. Its state is the state that the entries of a simulation leave.
use Rattle.std.specs.Prelude.{◌≡◌, ◌++◌, ◌+◌, ◌*◌, ◌<◌, ◌≤◌, ◌^◌, ℕ, Bool, List, [], ◌∷◌, length, Ok}
use Rattle.std.specs.List.{All}
use Rattle.booth_conf.specs.Config.{ConfigSays}
use Rattle.booth_conf.specs.Sound.{IsSound}
use Rattle.booth_node.specs.declared.node.Turn.TheVariants.{Went}
use Rattle.booth_node.specs.Reaction.{turn_end}
use Rattle.booth_node.specs.World.{WorldEntry, last_time}
use Rattle.booth_sim.specs.declared.clock.TheConstants.{TIMES_END}
use Rattle.booth_sim.specs.declared.cluster.Cluster.{Cluster}
use Rattle.booth_sim.specs.declared.daemon.Daemon.{Daemon}
use Rattle.booth_sim.specs.declared.drawing.Draw.{Draw}
use Rattle.booth_sim.specs.declared.frames.SentFrame.{SentFrame}
use Rattle.booth_sim.specs.declared.happening.Happening.{Happening as HappeningOf}
use Rattle.booth_sim.specs.declared.happening.Happening.TheVariants as happenings
use Rattle.booth_sim.specs.declared.summary.Summary.{Summary}
use Rattle.booth_sim.specs.Counts.{most_between}
use Rattle.booth_sim.specs.Frames.{kept_frames}
use Rattle.booth_sim.specs.Happenings.{Happening, Turns, Restarts, happening}
use Rattle.booth_sim.specs.Kept.{all_kept}
use Rattle.booth_sim.specs.Simulation.{IsHappening, IsSimulation}
use Rattle.booth_sim.specs.Standing.{AreDaemons, HasStarted, IsCounted, KeepsAll}
use Rattle.booth_sim.specs.Turning.{Grows, HasRoom}

-- ---- events

-- An event, in the form of the code.
abbrev pub says : HappeningOf → Happening
says (happenings.Turn place arrival bytes) = Turns place arrival bytes
says (happenings.Restart place) = Restarts place

-- This is the event with this number, if these frames are stored as sent.
pub record IsWhatHappens (config : ConfigSays) (frames : List SentFrame) (event : ℕ) (draw : Draw)
    (said : HappeningOf) : Type 0 where
  pub is : (before : List WorldEntry) → frames ≡ kept_frames config before →
      says said ≡ happening config before event draw

-- The event is one of a member of the configuration, and does not end the run.
abbrev pub CanHappen : ConfigSays → Happening → Type 0
CanHappen config (Turns place arrival bytes) = (place < length config.members) × (turn_end (Ok arrival) ≡ Went)
CanHappen config (Restarts place) = place < length config.members

-- ---- a cluster

-- The daemons of the members from this place on have started for the first time.
abbrev pub AreStarted : ConfigSays → ℕ → List Daemon → Type 0
AreStarted config place [] = Unit {0}
AreStarted config place (daemon ∷ daemons) =
    HasStarted config place (all_kept config.tickets place []) 0 daemon × AreStarted config (place + 1) daemons

-- The daemons of the first members, this many, have started for the first time.
pub record HaveStarted (config : ConfigSays) (number : ℕ) (daemons : List Daemon) : Type 0 where
  pub all : length daemons ≡ number
  pub each : AreStarted config 0 daemons

-- Nothing was counted.
pub record IsNothing (summary : Summary) : Type 0 where
  pub delivered : summary.delivered ≡ 0
  pub restarts : summary.restarts ≡ 0
  pub gains : summary.gains ≡ 0
  pub releases : summary.releases ≡ 0
  pub greatest : summary.greatest_term ≡ 0
  pub most : summary.most_holders ≡ 0

-- The cluster has room for its next event.
pub record IsReady (cluster : Cluster) : Type 0 where
  pub sound : IsSound cluster.config
  pub all : length cluster.daemons.items ≡ length cluster.config.members
  pub records : All (KeepsAll cluster.config) cluster.daemons.items
  pub early : cluster.time < TIMES_END
  pub room : HasRoom cluster.summary

-- The state that the entries leave, except the time and the holders.
pub record Holds (config : ConfigSays) (before : List WorldEntry) (daemons : List Daemon) (frames : List SentFrame)
    (summary : Summary) : Type 0 where
  pub each : AreDaemons config before 0 daemons
  pub sent : frames ≡ kept_frames config before
  pub counted : IsCounted config before summary

-- The entries of an event at a true time, and the state that they leave.
pub record Leaves (config : ConfigSays) (before : List WorldEntry) (time : ℕ) (fails : Bool) (what : Happening)
    (daemons : List Daemon) (frames : List SentFrame) (summary : Summary) : Type 0 where
  pub last : List WorldEntry
  pub is : IsHappening config before time fails what last
  pub holds : Holds config (before ++ last) daemons frames summary

-- The event happened in a cluster, at its time.
pub record Happened (fails : Bool) (what : Happening) (old new : Cluster) : Type 0 where
  pub same : new.config ≡ old.config
  pub at : new.time ≡ old.time
  pub all : length new.daemons.items ≡ length old.daemons.items
  pub grows : Grows 1 1 (2 ^ 32) old.summary new.summary
  pub leaves : (before : List WorldEntry) → Holds old.config before old.daemons.items old.frames old.summary
      → Leaves old.config before old.time fails what new.daemons.items new.frames new.summary

-- The counts after this many events are not greater than this number.
pub record IsFew (events : ℕ) (summary : Summary) : Type 0 where
  pub delivered : summary.delivered ≤ events
  pub restarts : summary.restarts ≤ events
  pub gains : summary.gains ≤ events * 2 ^ 32
  pub releases : summary.releases ≤ events * 2 ^ 32

-- A cluster after this many events of a simulation.
pub record Stands (config : ConfigSays) (events number event : ℕ) (cluster : Cluster) : Type 0 where
  pub before : List WorldEntry
  pub simulation : IsSimulation config number event before
  pub sound : IsSound config
  pub same : cluster.config ≡ config
  pub all : length cluster.daemons.items ≡ length config.members
  pub holds : Holds config before cluster.daemons.items cluster.frames cluster.summary
  pub at : cluster.time ≡ last_time 0 before
  pub asked : cluster.summary.events ≡ events
  pub drawn : cluster.summary.number ≡ number
  pub most : cluster.summary.most_holders ≡ most_between config [] before
  pub few : IsFew event cluster.summary
