-- Steps of one member, one after the other, while no other event happens.
use Rattle.std.specs.Prelude.{Bool, ℕ, List, [], ◌∷◌}
use Rattle.booth_world.specs.Facts.{Facts}
use Rattle.booth_world.specs.States.{MemberState, Cluster}
use Rattle.booth_world.specs.Steps.{MemberStep, WorldStep, MemberDoes, May, member_after, facts_after, IsStartOf, IsTimely}

-- Each step is allowed in the state before it.
abbrev pub IsMemberRun : Cluster → ℕ → ℕ → Facts → MemberState → List MemberStep → Type 0
IsMemberRun c now m f x [] = Unit {0}
IsMemberRun c now m f x (step ∷ steps) =
    May c f m x step
    × IsMemberRun c now m (facts_after now m x step f) (member_after c now m x step) steps

abbrev pub member_after_all : Cluster → ℕ → ℕ → MemberState → List MemberStep → MemberState
member_after_all c now m x [] = x
member_after_all c now m x (step ∷ steps) =
    member_after_all c now m (member_after c now m x step) steps

abbrev pub facts_after_all : Cluster → ℕ → ℕ → Facts → MemberState → List MemberStep → Facts
facts_after_all c now m f x [] = f
facts_after_all c now m f x (step ∷ steps) =
    facts_after_all c now m (facts_after now m x step f) (member_after c now m x step) steps

-- A member's steps, as steps of the world.
abbrev pub world_steps : ℕ → List MemberStep → List WorldStep
world_steps m [] = []
world_steps m (step ∷ steps) = MemberDoes m step ∷ world_steps m steps

-- Each start among the steps is of version 2 exactly if `second` is true, and of this phase.
abbrev pub AreStartsOf : Bool → ℕ → List MemberStep → Type 0
AreStartsOf second phase [] = Unit {0}
AreStartsOf second phase (step ∷ steps) = IsStartOf second phase step × AreStartsOf second phase steps

-- Each step keeps to its phase.
abbrev pub AreTimely : Cluster → ℕ → ℕ → MemberState → List MemberStep → Type 0
AreTimely c now m x [] = Unit {0}
AreTimely c now m x (step ∷ steps) = IsTimely c now m x step × AreTimely c now m (member_after c now m x step) steps
