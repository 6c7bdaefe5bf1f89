-- A cluster with one configuration: all its sessions are of phase 0, which closes when the clocks end. So the laws
-- over phases apply to it without a premise on phases.
use Rattle.std.specs.Prelude.{◌≡◌, ℕ, ◌+◌, ◌*◌, ◌<◌, List}
use Rattle.booth_base.specs.Times.{promise_of}
use Rattle.booth_base.specs.declared.times.Times.{Times}
use Rattle.booth_rec.specs.declared.record.Lease.{Lease}
use Rattle.booth_world.specs.Facts.{Seats}
use Rattle.booth_world.specs.States.{Phase, opening, Cluster, HasClocks, HasPhases, distance_in}
use Rattle.booth_world.specs.Steps.{WorldStep, IsRun, world_of}
use Rattle.booth_world.specs.Held.{IsOfPhase}

-- The time between the openings of a phase and of the next phase.
abbrev pub stride : ℕ → ℕ → Times → ℕ
stride span ticks times = span + 2 * (ticks * (promise_of times + 1))

-- The phases of a cluster with these members and these times, whose clocks have this length. Phase 0 is open as long as
-- the clocks run. The later phases open after the clocks have ended, so no session is of them.
abbrev pub only_phase : ℕ → ℕ → Seats → Times → ℕ → Phase
only_phase span ticks seats times phase = record {
  seats = seats;
  times = times;
  opens = stride span ticks times * phase;
  closes = stride span ticks times * phase + span;
  lasts = promise_of times;
}

-- The seats of a configuration that has all members of the cluster. The place of each member is its number.
abbrev pub all_seats : ℕ → Seats
all_seats members = record { size = members; number = λ place. place; place = λ m. m }

-- A cluster has phases if it has one configuration, whose places belong to different members. Then the distance is
-- acquire-after, and each lease that is gained is of phase 0.
pub record HasOnePhase (c : Cluster) (times : Times) : Type 0 where
  pub phases : HasPhases c
  pub distance : (phase : ℕ) → distance_in c phase ≡ times.after
  pub first : HasClocks c → (steps : List WorldStep) → IsRun c (opening c) steps
      → (s : ℕ) (lease : Lease) (phase : ℕ) → IsOfPhase c (world_of c steps) s lease phase → phase ≡ 0

abbrev pub OnePhaseIsEnough : Type 0
OnePhaseIsEnough =
    (c : Cluster) (seats : Seats) (times : Times) → c.phase ≡ only_phase c.span c.ticks seats times
    → ((place : ℕ) → place < seats.size → (seats.number place < c.members) × (seats.place (seats.number place) ≡ place))
    → HasOnePhase c times
