-- The changes by a member's turn: its records, the frames that are stored as sent, and the counts.
use Rattle.std.specs.Prelude.{◌≡◌, ◌++◌, ◌+◌, ◌<◌, ◌≤◌, ◌^◌, ℕ, false, List, [], ◌∷◌, length, Option}
use Rattle.booth_conf.specs.Config.{ConfigSays}
use Rattle.booth_rec.specs.declared.record.Record.{Record}
use Rattle.booth_host.specs.declared.entry.Entry.{Entry}
use Rattle.booth_node.specs.Session.{Makes}
use Rattle.booth_node.specs.View.{node_config, state_of}
use Rattle.booth_node.specs.World.{WorldEntry}
use Rattle.booth_sim.specs.declared.daemon.Coming.{Coming}
use Rattle.booth_sim.specs.declared.daemon.Daemon.{Daemon}
use Rattle.booth_sim.specs.declared.frames.SentFrame.{SentFrame}
use Rattle.booth_sim.specs.declared.summary.Summary.{Summary}
use Rattle.booth_sim.specs.Counts.{is_delivery}
use Rattle.booth_sim.specs.Simulation.{made_at, turn_calls}
use Rattle.booth_sim.specs.Standing.{IsSeen, TookTurn}

-- One more event makes no count too great for a word of 64 bits.
pub record HasRoom (summary : Summary) : Type 0 where
  pub delivered : summary.delivered + 1 < 2 ^ 64
  pub restarts : summary.restarts + 1 < 2 ^ 64
  pub gains : summary.gains + 2 ^ 32 < 2 ^ 64
  pub releases : summary.releases + 2 ^ 32 < 2 ^ 64

-- Each count rose by this much, and the other numbers are unchanged.
pub record Grows (delivered restarts changes : ℕ) (old new : Summary) : Type 0 where
  pub arrived : new.delivered ≤ old.delivered + delivered
  pub started : new.restarts ≤ old.restarts + restarts
  pub gained : new.gains ≤ old.gains + changes
  pub released : new.releases ≤ old.releases + changes
  pub events : new.events ≡ old.events
  pub number : new.number ≡ old.number
  pub most : new.most_holders ≡ old.most_holders

-- None of these calls delivers a frame of a member.
abbrev pub NoneArrives : ConfigSays → List Entry → Type 0
NoneArrives config [] = Unit {0}
NoneArrives config (call ∷ calls) = (is_delivery config (Makes call) ≡ false) × NoneArrives config calls

-- These calls of the member with this index change its records, the frames and the counts.
pub record Sees (config : ConfigSays) (place : ℕ) (calls : List Entry) (old new : List (Option Record))
    (sent kept : List SentFrame) (counted now : Summary) : Type 0 where
  pub sees : (before : List WorldEntry) (time : ℕ) → NoneArrives config calls
      → IsSeen config before place old sent counted
      → IsSeen config (before ++ made_at place time calls) place new kept now
  pub all : length new ≡ length old
  pub grows : Grows 0 0 (length calls) counted now

-- The daemon of the member with this index made a turn.
pub record MadeTurn (config : ConfigSays) (place : ℕ) (coming : Coming) (old new : Daemon)
    (sent kept : List SentFrame) (counted now : Summary) : Type 0 where
  pub deeds : List Entry
  pub node : node_config new.node ≡ node_config old.node
  pub took : TookTurn (node_config old.node) (state_of old.node) (state_of new.node) coming deeds
  pub sees : (before : List WorldEntry) (time : ℕ) → IsSeen config before place old.kept.items sent counted
      → IsSeen config (before ++ made_at place time (turn_calls coming.arrival coming.bytes.now coming.reading deeds))
      place new.kept.items kept now
  pub grows : Grows 1 0 (2 ^ 32) counted now
