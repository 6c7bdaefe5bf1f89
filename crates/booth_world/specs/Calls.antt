-- Each call of the lease rules, and each result of a write, is a list of world steps of its member.
use Rattle.std.specs.Prelude.{◌≡◌, ℕ, ◌<◌, ◌≤◌, List, [], ◌∷◌, Bool, true, false, None, IsTrue}
use Rattle.booth_base.specs.declared.address.MemberId.{MemberId}
use Rattle.booth_rec.specs.declared.record.Record.{Record}
use Rattle.booth_wire.specs.declared.message.Say.TheVariants as says
use Rattle.booth_wire.specs.declared.message.Setup.{Setup}
use Rattle.booth_raft.specs.declared.view.View.{View}
use Rattle.booth_raft.specs.Facts.{ViewFacts}
use Rattle.booth_raft.specs.Members.{is_leader}
use Rattle.booth_raft.specs.RoundsAndAnswers.{MayAnswer}
use Rattle.booth_raft.specs.Sound.{IsSound}
use Rattle.booth_world.specs.Reading.{MayBeRead, IsLaterOrKept}
use Rattle.booth_world.specs.Facts.{Facts}
use Rattle.booth_world.specs.States.{MemberState, WorldState, opening, Cluster, HasClocks, HasPhases}
use Rattle.booth_world.specs.Rounds.{MayPromise}
use Rattle.booth_world.specs.Steps.{MemberStep, WorldStep, IsRun, after_steps, world_of}
use Rattle.booth_world.specs.MemberRuns.{IsMemberRun, AreTimely, member_after_all, facts_after_all, world_steps}
use Rattle.booth_world.specs.Agreement.{AreIds, IsSeated, records_in, Agrees}
use Rattle.booth_world.specs.Messages.{IsFact}
use Rattle.booth_world.specs.Gives.{may_answered, Mark, mark_of, releases_answered, Given, given_by, LeadsTo}
use Rattle.booth_world.specs.Rules.{MemberMessage, CoreCall, Asks, Hears, RenewsLease, GivesBack, Rules}

-- ---- answers

-- If a member's view allows it to answer a round of a site, the member may promise that site in the world.
abbrev pub PromisesWhereItMayAnswer : Type 0
PromisesWhereItMayAnswer =
    (c : Cluster) (id_of : ℕ → MemberId) (f : Facts) (m : ℕ) (view : View) (x : MemberState)
    → AreIds c.members id_of → Agrees c id_of f m view x
    → (site term : ℕ) → site < c.members → c.is_site site ≡ true
    → MayAnswer view (id_of site) term x.reading → MayPromise c x site term

-- ---- the calling member

-- A member as its callers know it: the ids of all places, its place, its setup and its view.
pub record Caller : Type 0 where
  pub id_of : ℕ → MemberId
  pub place : ℕ
  pub setup : Setup
  pub view : View

-- A member of a world, with its setup and a view that agrees with its state.
pub record IsMember (c : Cluster) (w : WorldState) (member : Caller) : Type 0 where
  pub ids : AreIds c.members member.id_of
  pub below : member.place < c.members
  pub seated : IsSeated c member.id_of member.place (w.member member.place).second (w.member member.place).phase
      member.setup
  pub timely : w.now ≤ (c.phase (w.member member.place).phase).closes
  pub sound : IsSound member.setup
  pub view_facts : ViewFacts member.setup member.view
  pub agrees : Agrees c member.id_of w.facts member.place member.view (w.member member.place)

-- The property holds for each member of each world to which a list of steps leads.
abbrev pub OfEachMember : (Cluster → WorldState → Caller → Type 0) → Type 0
OfEachMember P =
    (c : Cluster) → HasClocks c → HasPhases c → (steps : List WorldStep) → IsRun c (opening c) steps
    → (member : Caller) → IsMember c (world_of c steps) member → P c (world_of c steps) member

abbrev pub state_of : WorldState → Caller → MemberState
state_of w member = w.member member.place

abbrev pub mark_at : WorldState → ℕ → Mark
mark_at w m = mark_of w.now m (w.member m)

-- ---- the result of a call

-- Steps of the member lead from this world to the given result.
abbrev pub Gives : Cluster → (ℕ → MemberId) → WorldState → ℕ → Given → Type 0
Gives c id_of w m given = LeadsTo c id_of (mark_at w m) w.facts (w.member m) given

-- Steps of the member in a session of this version and this phase lead from this world to the given result.
abbrev pub GivesIn : Bool → ℕ → Cluster → (ℕ → MemberId) → WorldState → ℕ → Given → Type 0
GivesIn second phase c id_of w m given =
    LeadsTo c id_of (record (mark_at w m) { second = second; phase = phase }) w.facts (w.member m) given

-- The result of a call, at the member's last reading.
abbrev pub given_by_call : Rules → WorldState → Caller → CoreCall → Given
given_by_call rules w member call =
    given_by
    (rules.call member.setup member.view (state_of w member).reading call)
    (records_in member.id_of (state_of w member).may)
    w.facts.releases

-- The result of the member's waiting write, which succeeded or failed.
abbrev pub given_by_answer : Rules → WorldState → Caller → Bool → Given
given_by_answer rules w member ok =
    given_by
    (rules.answer member.setup member.view (state_of w member).reading ok)
    (may_answered member.view.waiting ok (records_in member.id_of (state_of w member).may))
    (releases_answered (mark_at w member.place) member.view.waiting ok w.facts.releases)

-- The result of a start: the record that the start read is the only one that may have been written.
abbrev pub given_by_start : Rules → WorldState → ℕ → Setup → Record → Given
given_by_start rules w m setup kept = record {
  view = rules.start setup kept (w.member m).reading;
  say = says.Nothing;
  may = kept ∷ [];
  releases = w.facts.releases;
}

-- ---- the calls

-- A message of a member arrives at the true time of the reading, and is a fact about its sender. The sender is named by
-- its place in the phase of the member's session.
pub record IsHeard (c : Cluster) (w : WorldState) (member : Caller) (message : MemberMessage)
    : Type 0 where
  pub timely : (state_of w member).at ≡ w.now
  pub below : message.sender < (c.phase (state_of w member).phase).seats.size
  pub from : message.head.from ≡ member.id_of ((c.phase (state_of w member).phase).seats.number message.sender)
  pub fact : IsFact member.id_of w.facts ((c.phase (state_of w member).phase).seats.number message.sender)
      message.head message.part message.head.cmd

-- The condition of a call, apart from the condition that no write waits.
abbrev pub MayCall : Cluster → WorldState → Caller → CoreCall → Type 0
MayCall c w member (Asks reason) = IsTrue member.setup.site
MayCall c w member (Hears message) = IsHeard c w member message
MayCall c w member RenewsLease = IsTrue (is_leader member.view.role)
MayCall c w member (GivesBack reason) = IsTrue member.setup.site
MayCall c w member call = Unit {0}

-- A member that is down starts with a record that it may have written, or with a silent record. Its session may be of
-- either version, but not of version 1 after one of version 2.
abbrev pub StartsAreSteps : Rules → Type 0
StartsAreSteps rules =
    (c : Cluster) → HasClocks c → HasPhases c → (steps : List WorldStep) → IsRun c (opening c) steps
    → (id_of : ℕ → MemberId) (m : ℕ) (second : Bool) (phase : ℕ) (setup : Setup)
    → AreIds c.members id_of → m < c.members → IsSeated c id_of m second phase setup
    → ((world_of c steps).member m).up ≡ false
    → (((world_of c steps).member m).second ≡ true → second ≡ true)
    → (kept : Record) → MayBeRead (c.is_site m) (records_in id_of ((world_of c steps).member m).may) kept
    → (c.goes_on ≡ true → IsLaterOrKept (records_in id_of ((world_of c steps).member m).may) kept)
    → GivesIn second phase c id_of (world_of c steps) m (given_by_start rules (world_of c steps) m setup kept)

-- Each start, each call and each result of a write gives steps. The result of a write may come later than its call,
-- after steps of other members.
pub record CallsAreSteps (rules : Rules) : Type 0 where
  pub start_gives : StartsAreSteps rules
  pub call_gives : OfEachMember (λ c w member.
      member.view.waiting ≡ None → (call : CoreCall) → MayCall c w member call
      → Gives c member.id_of w member.place (given_by_call rules w member call))
  pub answer_gives : OfEachMember (λ c w member.
      (ok : Bool) → Gives c member.id_of w member.place (given_by_answer rules w member ok))

-- The steps that one member may make from a world are steps of the world.
abbrev pub StepsOfOneAreSteps : Type 0
StepsOfOneAreSteps =
    (c : Cluster) (w : WorldState) (m : ℕ) (steps : List MemberStep) → m < c.members
    → IsMemberRun c w.now m w.facts (w.member m) steps → AreTimely c w.now m (w.member m) steps
    → IsRun c w (world_steps m steps)
    × ((after_steps c w (world_steps m steps)).member m
    ≡ member_after_all c w.now m (w.member m) steps)
    × ((after_steps c w (world_steps m steps)).facts
    ≡ facts_after_all c w.now m w.facts (w.member m) steps)
