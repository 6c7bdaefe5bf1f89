-- The terms of leases distinguish them, whatever clocks do, if each start goes on. No definition here has a premise on
-- a clock, not even that it never falls.
use Rattle.std.specs.Prelude.{◌≡◌, ◌≢◌, ◌⊎◌, ◌++◌, ℕ, ◌<◌, ◌≤◌, true, false, Some, List}
use Rattle.booth_conf.specs.declared.tickets.TicketConf.{TicketConf}
use Rattle.booth_rec.specs.declared.record.Lease.{Lease}
use Rattle.booth_rec.specs.declared.record.Record.{Record}
use Rattle.booth_node.specs.Records.{Has as Kept}
use Rattle.booth_node.specs.World.{WorldEntry, World, members_of, entries_of, begins_with}
use Rattle.booth_node.specs.Held.{Moment, IsAutomatic, may_at, HoldsBy}
use Rattle.booth_world.specs.Facts.{Has, Gain}
use Rattle.booth_world.specs.States.{KeptRecord, WorldState, opening, Cluster, HasSeats, IsNear}
use Rattle.booth_world.specs.Steps.{WorldStep, IsRun, AreSecond, world_of}
use Rattle.booth_world.specs.Held.{IsOfPhase}
use Rattle.booth_world.specs.Shadows.{IsComing}
use Rattle.booth_world.specs.Worlds.{IsLater}

-- A member may have written a record with this lease, and did not begin with it.
pub record HasGained (c : Cluster) (w : WorldState) (s : ℕ) (lease : Lease) : Type 0 where
  pub kept : KeptRecord
  pub may : Has (w.member s).may kept
  pub has : kept.lease ≡ Some lease
  pub fresh : (c.begins s).kept.lease ≢ Some lease

-- Each gained lease was gained in some phase.
abbrev pub GainedHavePhases : Type 0
GainedHavePhases =
    (c : Cluster) (steps : List WorldStep) → IsRun c (opening c) steps
    → (s : ℕ) (lease : Lease) → HasGained c (world_of c steps) s lease
    → (phase : ℕ) × IsOfPhase c (world_of c steps) s lease phase

-- If each start is of version 2 and goes on, two gained leases with the same term belong to one member. Both leases are
-- of one phase, or of a phase and the next.
abbrev pub TermsAreOfOneMember : Type 0
TermsAreOfOneMember =
    (c : Cluster) → HasSeats c → c.goes_on ≡ true
    → (early late : List WorldStep) → IsRun c (opening c) (early ++ late) → AreSecond (early ++ late)
    → (s t : ℕ) (first second : Lease) (phase other : ℕ) → IsNear phase other
    → IsOfPhase c (world_of c early) s first phase → IsOfPhase c (world_of c (early ++ late)) t second other
    → first.term ≡ second.term → s ≡ t

-- Each record that the member may have written has a term below this one.
abbrev pub IsBelow : WorldState → ℕ → ℕ → Type 0
IsBelow w s term = (k : KeptRecord) → Has (w.member s).may k → k.term < term

-- A lease has a greater term than another lease if its member had not yet written its term when the other lease was
-- gained. Both leases are of one phase, or of a phase and the next.
abbrev pub LaterAskersHaveLaterTerms : Type 0
LaterAskersHaveLaterTerms =
    (c : Cluster) → HasSeats c → c.goes_on ≡ true
    → (early late : List WorldStep) → IsRun c (opening c) (early ++ late) → AreSecond (early ++ late)
    → (s t : ℕ) (first second : Lease) (phase other : ℕ) → IsNear phase other
    → IsOfPhase c (world_of c early) s first phase → IsOfPhase c (world_of c (early ++ late)) t second other
    → HasGained c (world_of c early) s first
    → IsBelow (world_of c early) t second.term
    → first.term < second.term

-- The law for the facts: if a round was opened after another lease was gained, the lease of that round has no smaller
-- term. In the same term, both leases belong to the same site. The rounds are of one phase, or of a phase and the next.
abbrev pub LaterRoundsHaveLaterTerms : Type 0
LaterRoundsHaveLaterTerms =
    (c : Cluster) → HasSeats c → c.goes_on ≡ true
    → (early late : List WorldStep) → IsRun c (opening c) (early ++ late) → AreSecond (early ++ late)
    → (g h : Gain) → Has (world_of c early).facts.leases g → Has (world_of c (early ++ late)).facts.leases h
    → IsNear g.round.phase h.round.phase
    → (Has (world_of c early).facts.rounds h.round → ⊥)
    → (g.round.term ≤ h.round.term) × (g.round.term ≡ h.round.term → g.round.site ≡ h.round.site)

-- No record that the member may have written has this lease.
abbrev pub HasNot : WorldState → ℕ → Lease → Type 0
HasNot w s lease = (k : KeptRecord) → Has (w.member s).may k → k.lease ≢ Some lease

-- A lease that a member gains after it went down has a greater term than each lease that it gained before. So all
-- leases of one term belong to one run of its daemon.
abbrev pub LivesHaveTheirTerms : Type 0
LivesHaveTheirTerms =
    (c : Cluster) → c.goes_on ≡ true
    → (early late : List WorldStep) → IsRun c (opening c) (early ++ late) → AreSecond (early ++ late)
    → (s : ℕ) (first second : Lease) → ((world_of c early).member s).up ≡ false
    → HasGained c (world_of c early) s first → HasGained c (world_of c (early ++ late)) s second
    → HasNot (world_of c early) s second
    → first.term < second.term

-- ---- for worlds of entries

-- A member may have written this lease of the ticket at this moment, and did not begin with it.
pub record HasGainedAt (w : World) (ticket : TicketConf) (m : ℕ) (moment : Moment w) (lease : Lease) : Type 0 where
  pub below : m < members_of w
  pub kept : Record
  pub may : Kept (may_at w ticket m moment) kept
  pub has : kept.lease ≡ Some lease
  pub fresh : (begins_with w m ticket.name).lease ≢ Some lease

-- Two gained leases with the same term belong to one member.
abbrev pub TermsAreOfOneIn : World → Type 0
TermsAreOfOneIn w =
    (ticket : TicketConf) → IsAutomatic w ticket
    → (early late : Moment w) (between : List WorldEntry) → IsLater w early late between
    → (s t : ℕ) (first second : Lease)
    → HasGainedAt w ticket s early first → HasGainedAt w ticket t late second
    → first.term ≡ second.term → s ≡ t

-- If two holders have leases with the same term, each by its own clock and at its own moment, they are the same member.
abbrev pub HoldersOfOneTermIn : World → Type 0
HoldersOfOneTermIn w =
    (ticket : TicketConf) → IsAutomatic w ticket
    → (early late : Moment w) (between : List WorldEntry) → IsLater w early late between
    → (s t : ℕ) (kept other : Record) (first second : Lease)
    → kept.lease ≡ Some first → other.lease ≡ Some second
    → HoldsBy w ticket s early kept → HoldsBy w ticket t late other
    → first.term ≡ second.term → s ≡ t

-- Each record for the ticket that the member may have written at this moment has a term below this one. So has the
-- record that it writes next in its turn.
abbrev pub IsBelowAt : (w : World) → TicketConf → ℕ → Moment w → ℕ → Type 0
IsBelowAt w ticket m moment term =
    (kept : Record) → Kept (may_at w ticket m moment) kept ⊎ IsComing ticket.name (entries_of m moment.before) kept
    → kept.term < term

-- A lease has a greater term than another lease if its member had not yet written its term when the other lease was
-- gained.
abbrev pub AskersHaveLaterTermsIn : World → Type 0
AskersHaveLaterTermsIn w =
    (ticket : TicketConf) → IsAutomatic w ticket
    → (early late : Moment w) (between : List WorldEntry) → IsLater w early late between
    → (s t : ℕ) (first second : Lease)
    → HasGainedAt w ticket s early first → HasGainedAt w ticket t late second
    → IsBelowAt w ticket t early second.term
    → first.term < second.term
