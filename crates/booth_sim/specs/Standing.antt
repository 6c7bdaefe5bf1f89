-- The state that parts of the code carry along: the state that the earlier entries leave.
use Rattle.std.specs.Prelude.{◌≡◌, ◌≤◌, ℕ, ◌+◌, List, [], ◌∷◌, length, Option, Ok}
use Rattle.booth_base.specs.Tree.{Ends}
use Rattle.booth_conf.specs.Config.{ConfigSays}
use Rattle.booth_rec.specs.declared.record.Record.{Record}
use Rattle.booth_host.specs.declared.entry.Entry.{Entry}
use Rattle.booth_host.specs.declared.entry.Entry.TheVariants as calls
use Rattle.booth_node.specs.declared.node_config.NodeConfig.{NodeConfig}
use Rattle.booth_node.specs.Opening.{opened}
use Rattle.booth_node.specs.Reaction.{IsTurn, turn_end}
use Rattle.booth_node.specs.Session.{Doing}
use Rattle.booth_node.specs.State.{State}
use Rattle.booth_node.specs.View.{node_config, state_of}
use Rattle.booth_node.specs.World.{WorldEntry, stand_after}
use Rattle.booth_sim.specs.declared.daemon.Coming.{Coming}
use Rattle.booth_sim.specs.declared.daemon.Daemon.{Daemon}
use Rattle.booth_sim.specs.declared.frames.SentFrame.{SentFrame}
use Rattle.booth_sim.specs.declared.summary.Summary.{Summary}
use Rattle.booth_sim.specs.Counts.{changes_in, delivered_in, gains, greatest_term, releases, restarts_in}
use Rattle.booth_sim.specs.Frames.{kept_frames}
use Rattle.booth_sim.specs.Kept.{all_kept}
use Rattle.booth_sim.specs.Simulation.{AreAnswered, node_in, turn_calls}

-- ---- a turn

-- A turn had this input, and these are its actions.
pub record TookTurn (node : NodeConfig) (old new : State) (coming : Coming) (deeds : List Entry) : Type 0 where
  pub turn : IsTurn node old (turn_end (Ok coming.arrival))
      (turn_calls coming.arrival coming.bytes.now coming.reading deeds) new
  pub answered : AreAnswered coming.keeps_fail deeds

-- A `next` returned this input.
pub record Brought (coming : Coming) (call : Entry) : Type 0 where
  pub wait : ℕ
  pub is : call ≡ calls.Next wait (Ok coming.arrival) coming.bytes.now

-- A host recorded these calls of a turn that had this input.
pub record MetIn (coming : Coming) (told deeds : List Entry) : Type 0 where
  pub wait : ℕ
  pub whole : told ≡ calls.Next wait (Ok coming.arrival) coming.bytes.now ∷ calls.Now coming.reading ∷ deeds
  pub answered : AreAnswered coming.keeps_fail deeds

-- ---- between two entries

-- The counts, except the holders.
pub record IsCounted (config : ConfigSays) (before : List WorldEntry) (summary : Summary) : Type 0 where
  pub delivered : summary.delivered ≡ delivered_in config before
  pub restarts : summary.restarts ≡ restarts_in before
  pub gains : summary.gains ≡ changes_in gains config before
  pub releases : summary.releases ≡ changes_in releases config before
  pub greatest : summary.greatest_term ≡ greatest_term before

-- A count of gains or releases rises by at most one.
pub record RisesByOne (old new : Summary) : Type 0 where
  pub gains : new.gains ≤ old.gains + 1
  pub releases : new.releases ≤ old.releases + 1
  pub events : new.events ≡ old.events
  pub number : new.number ≡ old.number
  pub most : new.most_holders ≡ old.most_holders
  pub delivered : new.delivered ≡ old.delivered
  pub restarts : new.restarts ≡ old.restarts

-- The change by an action of the member with this index.
pub record IsSeen (config : ConfigSays) (before : List WorldEntry) (place : ℕ) (kept : List (Option Record))
    (frames : List SentFrame) (summary : Summary) : Type 0 where
  pub records : kept ≡ all_kept config.tickets place before
  pub sent : frames ≡ kept_frames config before
  pub counted : IsCounted config before summary

-- ---- between two events

-- The daemon of the member with this index has started with these records.
pub record HasStarted (config : ConfigSays) (place : ℕ) (kept : List (Option Record)) (reading : ℕ)
    (daemon : Daemon) : Type 0 where
  pub node : node_config daemon.node ≡ node_in config place
  pub state : state_of daemon.node ≡ opened (node_in config place) kept reading
  pub records : daemon.kept.items ≡ kept

-- A daemon has a record, or none, for each ticket.
abbrev pub KeepsAll : ConfigSays → Daemon → Type 0
KeepsAll config daemon = length daemon.kept.items ≡ length config.tickets

-- A member's daemon is in the state that the entries left, and has the member's records.
pub record IsDaemon (config : ConfigSays) (before : List WorldEntry) (place : ℕ) (daemon : Daemon) : Type 0 where
  pub node : node_config daemon.node ≡ node_in config place
  pub stands : stand_after place before ≡ Doing (node_in config place) (Ends (state_of daemon.node))
  pub records : daemon.kept.items ≡ all_kept config.tickets place before

-- These are the daemons of the members from this place on.
abbrev pub AreDaemons : ConfigSays → List WorldEntry → ℕ → List Daemon → Type 0
AreDaemons config before place [] = Unit {0}
AreDaemons config before place (daemon ∷ daemons) =
    IsDaemon config before place daemon × AreDaemons config before (place + 1) daemons
