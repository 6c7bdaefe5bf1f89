-- The state of one automatic ticket in a whole cluster.
use Rattle.std.specs.Prelude.{◌≡◌, ℕ, ◌+◌, ◌-◌, ◌*◌, ◌<◌, ◌≤◌, Bool, false, if◌then◌else◌, ◌==◌, Option, None, List, [], ◌∷◌, length, slice_index}
use Rattle.std.specs.Option.{ForSome}
use Rattle.booth_base.specs.Times.{guard_of, promise_of}
use Rattle.booth_base.specs.declared.times.Times.{Times}
use Rattle.booth_rec.specs.declared.record.Lease.{Lease}
use Rattle.booth_node.specs.Clock.{IsRising, IsClock}
use Rattle.booth_world.specs.Facts.{Round, Facts, no_facts, Seats, MajoritiesMeet}

-- The promise that an answer makes to a site. It is live at readings below `until`.
pub record Promise : Type 0 where
  pub to : ℕ
  pub term : ℕ
  pub until : ℕ

-- The members for which a member voted and to which it promised are members of the cluster.
pub record IsWithin (members : ℕ) (bound : Option ℕ) (promise : Option Promise) : Type 0 where
  pub bound_below : ForSome bound (λ s. s < members)
  pub promise_below : ForSome promise (λ p. p.to < members)

-- Sessions and records are of version 1 or 2. In version 2 a member writes its pledge to disk before it sends a
-- message about it, and has the pledge again after a start. In version 1 it writes a term and perhaps a lease, and
-- after a start it answers no round for the time of a whole promise. A cluster may have sessions of both versions.

-- The pledge of a member: the only site whose rounds it answers in its term, its promise, and the reading until which
-- it answers no round.
pub record Pledge : Type 0 where
  pub bound : Option ℕ
  pub promise : Option Promise
  pub abstain : ℕ

-- A record in the world, with its members named by place. A record of version 2 has a pledge, and a record of version
-- 1 has none. So a statement about each pledge concerns only records of version 2.
pub record KeptRecord : Type 0 where
  pub term : ℕ
  pub lease : Option Lease
  pub pledge : Option Pledge

-- If there is no record, it counts as one of version 1 with term 0 and no lease.
abbrev pub none_kept : KeptRecord
none_kept = record { term = 0; lease = None; pledge = None }

-- ---- the cluster

-- The beginning of a member: whether it was of version 2 before, and its record.
pub record TicketBeginning : Type 0 where
  pub second : Bool
  pub kept : KeptRecord

-- The beginning of a member that wrote nothing before.
abbrev pub begins_bare : TicketBeginning
begins_bare = record { second = false; kept = none_kept }

-- A phase of the cluster: the sessions with one configuration. A majority of a phase is a majority of the members that
-- have a place in its configuration, and the ticket has the times of that configuration. The sessions of the phase
-- start at true times from `opens` on, and do nothing after `closes`. An answer to a round of the phase binds its
-- member for at least `lasts`.
pub record Phase : Type 0 where
  pub seats : Seats
  pub times : Times
  pub opens : ℕ
  pub closes : ℕ
  pub lasts : ℕ

-- The cluster of one automatic ticket. Its members, of all phases together, are the numbers below `members`. Sites can
-- hold the ticket, and arbitrators only answer. A member has one clock through all its restarts. `span` is the length
-- of the clocks, and `ticks` is the number of their true times in a millisecond. If `goes_on` is true, each start goes
-- on from a record that its member may have written, or in a later term than the term of such a record.
pub record Cluster : Type 0 where
  pub members : ℕ
  pub is_site : ℕ → Bool
  pub phase : ℕ → Phase
  pub ticks : ℕ
  pub span : ℕ
  pub clock : ℕ → List ℕ
  pub begins : ℕ → TicketBeginning
  pub goes_on : Bool

-- The reading of a member's clock at a true time.
abbrev pub reads : Cluster → ℕ → ℕ → ℕ
reads c m time = slice_index (c.clock m) time

-- The time for which a lease of the phase runs.
abbrev pub expire_in : Cluster → ℕ → ℕ
expire_in c phase = (c.phase phase).times.expire

-- The time for which an answer binds its member, in a session of the phase.
abbrev pub promise_time : Cluster → ℕ → ℕ
promise_time c phase = promise_of (c.phase phase).times

-- The time for which an answer to a round of the phase binds its member, at least.
abbrev pub lasts_in : Cluster → ℕ → ℕ
lasts_in c phase = (c.phase phase).lasts

-- The part of that time that is left when a lease of the phase is over by each clock.
abbrev pub distance_in : Cluster → ℕ → ℕ
distance_in c phase = lasts_in c phase - (expire_in c phase + guard_of (c.phase phase).times)

-- The member has a place in the phase.
abbrev pub IsIn : Cluster → ℕ → ℕ → Type 0
IsIn c phase m =
    ((c.phase phase).seats.place m < (c.phase phase).seats.size)
    × ((c.phase phase).seats.number ((c.phase phase).seats.place m) ≡ m)

-- No phase has a smaller distance.
abbrev pub IsDistance : Cluster → ℕ → Type 0
IsDistance c distance = (phase : ℕ) → distance ≤ distance_in c phase

-- Both times are at or after the opening of a phase and before the opening of the next phase.
abbrev pub IsWindow : Cluster → ℕ → ℕ → ℕ → Type 0
IsWindow c phase early late = ((c.phase phase).opens ≤ early) × (late < (c.phase (phase + 1)).opens)

-- The two phases are the same, or one follows the other.
abbrev pub IsNear : ℕ → ℕ → Type 0
IsNear phase other = (phase ≤ other + 1) × (other ≤ phase + 1)

-- Each place of a phase belongs to another member, and majorities of each phase and of the next phase meet.
pub record HasSeats (c : Cluster) : Type 0 where
  pub named : (phase place : ℕ) → place < (c.phase phase).seats.size
      → ((c.phase phase).seats.number place < c.members)
      × ((c.phase phase).seats.place ((c.phase phase).seats.number place) ≡ place)
  pub meet : (phase : ℕ) → MajoritiesMeet c.members (c.phase phase).seats (c.phase (phase + 1)).seats

-- The phases follow one another by steps. In addition to their seats: promises of a phase and of the next phase cover
-- leases of both. Between phases that are further apart lies so much true time that the slowest clock counts a promise
-- and a millisecond in it.
pub record HasPhases (c : Cluster) : Type 0 where
  pub seats : HasSeats c
  pub lasting : (phase other : ℕ) → IsNear phase other → lasts_in c phase ≤ promise_time c other
  pub covered : (phase : ℕ) → expire_in c phase + guard_of (c.phase phase).times ≤ lasts_in c phase
  pub in_order : (phase : ℕ) → (c.phase phase).opens ≤ (c.phase (phase + 1)).opens
  pub spaced : (phase other : ℕ) → phase + 2 ≤ other
      → 1000000 * (c.ticks * (lasts_in c phase + 1)) ≤ 999000 * ((c.phase other).opens - (c.phase phase).closes)

-- The beginnings that a member may have at this reading. Its lease, if it has one, has ended. A record of version 2
-- belongs to a member that was of version 2, and names only members of the cluster. Its promise has a term no later
-- than the record's own, and was made after its abstention. The promise may be live.
pub record BeginsWell (members reading : ℕ) (beginning : TicketBeginning) : Type 0 where
  pub over : ForSome beginning.kept.lease (λ lease. lease.until ≤ reading)
  pub first : beginning.second ≡ false → beginning.kept.pledge ≡ None
  pub named : ForSome beginning.kept.pledge (λ pledge. IsWithin members pledge.bound pledge.promise)
  pub rested : ForSome beginning.kept.pledge
      (λ pledge. ForSome pledge.promise
      (λ promise. (promise.term ≤ beginning.kept.term) × (pledge.abstain ≤ reading)))

-- Each member has a clock, which never falls. All clocks have the same length, of at least 1. Each member begins
-- well.
pub record HasClocks (c : Cluster) : Type 0 where
  pub some : 0 < c.span
  pub long : (m : ℕ) → m < c.members → length (c.clock m) ≡ c.span
  pub rising : (m : ℕ) → m < c.members → IsRising (c.clock m)
  pub begins : (m : ℕ) → BeginsWell c.members (reads c m 0) (c.begins m)

-- Each clock drifts within the bounds.
pub record IsTimed (c : Cluster) : Type 0 where
  pub ticking : 0 < c.ticks
  pub clocks : (m : ℕ) → m < c.members → IsClock c.ticks (c.clock m)

-- ---- the state

-- The state of a member: whether it is up; whether its session, or its last session while it is down, is of version 2
-- (`second`), and the phase of that session; its last reading, and the true time of that reading; its term; its pledge,
-- as in `Pledge`; the records that it may have written; and its open round.
pub record MemberState : Type 0 where
  pub up : Bool
  pub second : Bool
  pub phase : ℕ
  pub reading : ℕ
  pub at : ℕ
  pub term : ℕ
  pub bound : Option ℕ
  pub promise : Option Promise
  pub abstain : ℕ
  pub may : List KeptRecord
  pub round : Option Round

pub record WorldState : Type 0 where
  pub now : ℕ
  pub member : ℕ → MemberState
  pub facts : Facts

-- The state of a member that has not started: it is down, and has its beginning. If it was of version 1, its first
-- start may be of either version.
abbrev pub unstarted : Cluster → ℕ → MemberState
unstarted c m = record {
  up = false;
  second = (c.begins m).second;
  phase = 0;
  reading = reads c m 0;
  at = 0;
  term = 0;
  bound = None;
  promise = None;
  abstain = 0;
  may = (c.begins m).kept ∷ [];
  round = None;
}

-- The state of the world before any event.
abbrev pub opening : Cluster → WorldState
opening c = record { now = 0; member = unstarted c; facts = no_facts }

-- The members, with the state of one of them replaced.
abbrev pub put : {A : Type 0} → (ℕ → A) → ℕ → A → ℕ → A
put states m x k = if k == m then x else states k
