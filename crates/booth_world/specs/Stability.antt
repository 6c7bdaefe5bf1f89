-- What remains of a member's agreement with its view while others make steps, while time passes, and while it reads its
-- clock. Also: runs that follow one another.
use Rattle.std.specs.Prelude.{Bool, true, ◌≡◌, ◌≢◌, ◌++◌, ℕ, ◌<◌, ◌≤◌, List, [], ◌∷◌, None}
use Rattle.booth_base.specs.declared.address.MemberId.{MemberId}
use Rattle.booth_wire.specs.declared.command.Cmd.{Cmd}
use Rattle.booth_wire.specs.declared.message.Head.{Head}
use Rattle.booth_wire.specs.declared.message.TicketPart.{TicketPart}
use Rattle.booth_raft.specs.declared.view.View.{View}
use Rattle.booth_world.specs.Facts.{Facts}
use Rattle.booth_world.specs.States.{MemberState, WorldState, Cluster, IsIn}
use Rattle.booth_world.specs.Lives.{reading_clock}
use Rattle.booth_world.specs.Steps.{WorldStep, ReadsClock, MemberDoes, Passes, happens, IsRun, after_steps, world_of, AreSecond}
use Rattle.booth_world.specs.Agreement.{Agrees}
use Rattle.booth_world.specs.Messages.{IsFact}
use Rattle.booth_world.specs.Gives.{Given, IsReached, AddsOnly}
use Rattle.booth_world.specs.Calls.{Caller, IsMember, GivesIn, mark_at}

-- The step is not one of this member.
abbrev pub IsOthers : ℕ → WorldStep → Type 0
IsOthers m (MemberDoes k step) = k ≢ m
IsOthers m (Passes time) = Unit {0}

-- Steps of other members leave a member unchanged, and its view still agrees. A message remains a fact, whichever
-- member makes a step. A member's reading of its clock changes nothing in its view. In version 2 a member reads its
-- clock only while no write waits, because the record that is being written promises from the last reading on.
pub record AgreementStays : Type 0 where
  pub unmoved : (c : Cluster) (w : WorldState) (m : ℕ) (step : WorldStep) → IsOthers m step
      → (happens c w step).member m ≡ w.member m
  pub agreed : (c : Cluster) (id_of : ℕ → MemberId) (w : WorldState) (m : ℕ) (view : View)
      → (step : WorldStep) → IsOthers m step → Agrees c id_of w.facts m view (w.member m)
      → Agrees c id_of (happens c w step).facts m view ((happens c w step).member m)
  pub said_on : (c : Cluster) (id_of : ℕ → MemberId) (w : WorldState) (step : WorldStep)
      → (s : ℕ) (head : Head) (part : TicketPart) (cmd : Cmd)
      → IsFact id_of w.facts s head part cmd → IsFact id_of (happens c w step).facts s head part cmd
  pub clock_read : (c : Cluster) (id_of : ℕ → MemberId) (f : Facts) (m now : ℕ)
      → (view : View) (x : MemberState)
      → (x.second ≡ true → view.waiting ≡ None)
      → Agrees c id_of f m view x → Agrees c id_of f m view (reading_clock c now m x)

-- ---- a call, as steps of the world

-- A call of one member, or a start in a session of this version and phase, leads from one world to another. The
-- member's view agrees, its messages are facts, and it adds no other facts. True time is unchanged. Other members are
-- unchanged, and their views still agree.
pub record IsNext (c : Cluster) (id_of : ℕ → MemberId) (w z : WorldState) (m : ℕ) (second : Bool) (phase : ℕ)
    (given : Given) : Type 0 where
  pub reached : IsReached c id_of (record (mark_at w m) { second = second; phase = phase }) given z.facts (z.member m)
  pub adds : AddsOnly (record (mark_at w m) { second = second; phase = phase }) given.releases w.facts z.facts
  pub same_time : z.now ≡ w.now
  pub unmoved : (k : ℕ) → k ≢ m → z.member k ≡ w.member k
  pub others_agree : (k : ℕ) (other : View) → k ≢ m
      → Agrees c id_of w.facts k other (w.member k) → Agrees c id_of z.facts k other (z.member k)
  pub said_on : (s : ℕ) (head : Head) (part : TicketPart) (cmd : Cmd)
      → IsFact id_of w.facts s head part cmd → IsFact id_of z.facts s head part cmd

-- The member may be in a session of the phase now: its clock was read since the phase opened, and the phase has not
-- closed; the member has a place in the phase; and while the member is up, its session is of the phase.
pub record InSession (c : Cluster) (w : WorldState) (m phase : ℕ) : Type 0 where
  pub opened : (c.phase phase).opens ≤ (w.member m).at
  pub past : (w.member m).at ≤ w.now
  pub timely : w.now ≤ (c.phase phase).closes
  pub placed : IsIn c phase m
  pub own : (w.member m).up ≡ true → (w.member m).phase ≡ phase

-- Each call leads from one world to the next. In version 2 its steps include no start of version 1.
abbrev pub CallsLeadOn : Type 0
CallsLeadOn =
    (c : Cluster) (id_of : ℕ → MemberId) (w : WorldState) (m : ℕ) (second : Bool) (phase : ℕ) (given : Given)
    → m < c.members → InSession c w m phase → GivesIn second phase c id_of w m given
    → (steps : List WorldStep) × IsRun c w steps
    × IsNext c id_of w (after_steps c w steps) m second phase given × (second ≡ true → AreSecond steps)

-- ---- one run after another

-- Runs append, and split at the point where they were appended.
pub record RunsAppend : Type 0 where
  pub world : (c : Cluster) (w : WorldState) (early late : List WorldStep)
      → after_steps c w (early ++ late) ≡ after_steps c (after_steps c w early) late
  pub run : (c : Cluster) (w : WorldState) (early late : List WorldStep)
      → IsRun c w early → IsRun c (after_steps c w early) late → IsRun c w (early ++ late)
  pub first : (c : Cluster) (w : WorldState) (early late : List WorldStep)
      → IsRun c w (early ++ late) → IsRun c w early
  pub second : (c : Cluster) (w : WorldState) (early late : List WorldStep)
      → IsRun c w (early ++ late) → IsRun c (after_steps c w early) late

-- No step is a step of this member.
abbrev pub AreOthers : ℕ → List WorldStep → Type 0
AreOthers m [] = Unit {0}
AreOthers m (step ∷ steps) = IsOthers m step × AreOthers m steps

-- While others make steps and time passes, a member is unchanged, and if it agreed it still agrees. The same holds if
-- the member itself reads its clock. In version 2 it holds only while no write waits.
pub record MembersStay : Type 0 where
  pub state : (c : Cluster) (w : WorldState) (m : ℕ) (more : List WorldStep) → AreOthers m more
      → (after_steps c w more).member m ≡ w.member m
  pub is_member : (c : Cluster) (steps more : List WorldStep) (member : Caller)
      → AreOthers member.place more
      → (world_of c (steps ++ more)).now ≤ (c.phase ((world_of c steps).member member.place).phase).closes
      → IsMember c (world_of c steps) member
      → IsMember c (world_of c (steps ++ more)) member
  pub is_member_later : (c : Cluster) (steps : List WorldStep) (member : Caller)
      → (((world_of c steps).member member.place).second ≡ true → member.view.waiting ≡ None)
      → IsMember c (world_of c steps) member
      → IsMember c (world_of c (steps ++ MemberDoes member.place ReadsClock ∷ [])) member
