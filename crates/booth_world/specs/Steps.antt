-- The possible next steps of a ticket in a cluster, and lists of steps.
use Rattle.std.specs.Prelude.{◌≡◌, ℕ, ◌+◌, ◌<◌, ◌≤◌, Bool, true, List, [], ◌∷◌}
use Rattle.booth_world.specs.Facts.{Round, Release, Facts}
use Rattle.booth_world.specs.States.{KeptRecord, Promise, MemberState, WorldState, opening, put, Cluster, IsIn}
use Rattle.booth_world.specs.Rounds.{new_round, MayElect, electing, MayRenew, renewing, with_round, MayPromise, promising, MayAddAnswer, new_answer, with_answer}
use Rattle.booth_world.specs.Leases.{MayGain, with_gain, MayKeep, trying, having, MayRelease, releasing, with_release, MayClear, clearing}
use Rattle.booth_world.specs.Lives.{MayLearn, learning, crashing, MayStart, starting, MayPass, reading_clock}

-- The steps that one member makes.
pub data MemberStep : Type 0 where
  Elects : MemberStep
  Renews : (before : Round) → MemberStep
  Promises : (site term : ℕ) → MemberStep
  Answers : (round : Round) (given : Promise) → MemberStep
  Gains : (round : Round) (places : List ℕ) → MemberStep
  TriesKeep : (kept : KeptRecord) → MemberStep
  HasKept : (kept : KeptRecord) → MemberStep
  Releases : MemberStep
  Clears : (release : Release) → MemberStep
  Learns : (term : ℕ) → MemberStep
  Crashes : MemberStep
  Starts : (kept : KeptRecord) (second : Bool) (phase : ℕ) → MemberStep
  ReadsClock : MemberStep

-- A step of the world: a member makes a step, or true time rises.
pub data WorldStep : Type 0 where
  MemberDoes : (m : ℕ) (step : MemberStep) → WorldStep
  Passes : (time : ℕ) → WorldStep

-- The condition of each kind of step, for a member in this state.
abbrev pub May : Cluster → Facts → ℕ → MemberState → MemberStep → Type 0
May c f m x Elects = MayElect c f m x
May c f m x (Renews before) = MayRenew m x before
May c f m x (Promises site term) = MayPromise c x site term
May c f m x (Answers round given) = MayAddAnswer c f x round given
May c f m x (Gains round places) = MayGain c f x round places
May c f m x (TriesKeep kept) = MayKeep c f m x kept
May c f m x (HasKept kept) = MayKeep c f m x kept
May c f m x Releases = MayRelease c m x
May c f m x (Clears release) = MayClear f x release
May c f m x (Learns term) = MayLearn x term
May c f m x Crashes = x.up ≡ true
May c f m x (Starts kept second phase) = MayStart c m x kept second
May c f m x ReadsClock = Unit {0}

-- The state of the member after its step.
abbrev pub member_after : Cluster → ℕ → ℕ → MemberState → MemberStep → MemberState
member_after c now m x Elects = electing m x
member_after c now m x (Renews before) = renewing m x before
member_after c now m x (Promises site term) = promising c m x site term
member_after c now m x (Answers round given) = x
member_after c now m x (Gains round places) = x
member_after c now m x (TriesKeep kept) = trying x kept
member_after c now m x (HasKept kept) = having x kept
member_after c now m x Releases = releasing m x
member_after c now m x (Clears release) = clearing x release
member_after c now m x (Learns term) = learning x term
member_after c now m x Crashes = crashing x
member_after c now m x (Starts kept second phase) = starting c x kept second phase
member_after c now m x ReadsClock = reading_clock c now m x

-- The facts after a member's step.
abbrev pub facts_after : ℕ → ℕ → MemberState → MemberStep → Facts → Facts
facts_after now m x Elects f = with_round f (new_round m x 0)
facts_after now m x (Renews before) f = with_round f (new_round m x (before.number + 1))
facts_after now m x (Answers round given) f = with_answer f (new_answer m x round)
facts_after now m x (Gains round places) f = with_gain f round now places
facts_after now m x Releases f = with_release f m x.term now
facts_after now m x step f = f

-- What a step owes to its phase. A start is of a member that has a place in its phase, and its clock was read since the
-- phase opened. No session does anything after its phase has closed, except that a member may read its clock or crash.
abbrev pub IsTimely : Cluster → ℕ → ℕ → MemberState → MemberStep → Type 0
IsTimely c now m x (Starts kept second phase) =
    ((c.phase phase).opens ≤ x.at) × (now ≤ (c.phase phase).closes) × IsIn c phase m
IsTimely c now m x Crashes = Unit {0}
IsTimely c now m x ReadsClock = Unit {0}
IsTimely c now m x step = x.up ≡ true → now ≤ (c.phase x.phase).closes

-- The condition of a step of the world.
abbrev pub MayStep : Cluster → WorldState → WorldStep → Type 0
MayStep c w (MemberDoes m step) =
    (m < c.members) × (May c w.facts m (w.member m) step) × IsTimely c w.now m (w.member m) step
MayStep c w (Passes time) = MayPass c w time

-- The world after a step.
abbrev pub happens : Cluster → WorldState → WorldStep → WorldState
happens c w (MemberDoes m step) = record {
  now = w.now;
  member = put w.member m (member_after c w.now m (w.member m) step);
  facts = facts_after w.now m (w.member m) step w.facts;
}
happens c w (Passes time) = record w { now = time }

-- Each step in the list is allowed in the state before it.
abbrev pub IsRun : Cluster → WorldState → List WorldStep → Type 0
IsRun c w [] = Unit {0}
IsRun c w (step ∷ steps) = MayStep c w step × IsRun c (happens c w step) steps

-- The world after a list of steps.
abbrev pub after_steps : Cluster → WorldState → List WorldStep → WorldState
after_steps c w [] = w
after_steps c w (step ∷ steps) = after_steps c (happens c w step) steps

-- The world after a list of steps from the very beginning.
abbrev pub world_of : Cluster → List WorldStep → WorldState
world_of c steps = after_steps c (opening c) steps

-- ---- the versions of starts

-- A start is of version 2 exactly if `second` is true, and of this phase. Other steps are not starts.
abbrev pub IsStartOf : Bool → ℕ → MemberStep → Type 0
IsStartOf second phase (Starts kept started own) = (started ≡ second) × (own ≡ phase)
IsStartOf second phase step = Unit {0}

-- A start is of version 2.
abbrev pub IsSecondStart : MemberStep → Type 0
IsSecondStart (Starts kept started phase) = started ≡ true
IsSecondStart step = Unit {0}

-- A start in this step is of version 2.
abbrev pub StartsSecond : WorldStep → Type 0
StartsSecond (MemberDoes m step) = IsSecondStart step
StartsSecond (Passes time) = Unit {0}

-- Each start among these steps is of version 2.
abbrev pub AreSecond : List WorldStep → Type 0
AreSecond [] = Unit {0}
AreSecond (step ∷ steps) = StartsSecond step × AreSecond steps
