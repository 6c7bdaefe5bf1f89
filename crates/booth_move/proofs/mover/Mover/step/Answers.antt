use Rattle.std.proofs.Common.{subst, sym}
use Rattle.booth_move.specs.declared.steps.Step.{Step}
use Rattle.booth_move.specs.Move.{IsSoundStage, Move}
use Rattle.booth_move.specs.Bound.{Lessens}
use Rattle.booth_move.proofs.SoundLemmas.{step_sound}
use Rattle.booth_move.proofs.EndLemmas.{lessens}
use Rattle.booth_move.proofs.mover.Mover.step.Goals as goal

pub invariant_of-self : goal.invariant_of-self
invariant_of-self c = (
  c.self.invariant.0,
  subst (λ (s : Step). IsSoundStage s.stage) (sym c.next-step.ensures) (step_sound c.args.self.now.setup c.args.self.now.stage _
      (subst (λ (m : Move). IsSoundStage m.stage) c.self.view_is c.self.invariant.1)),
)

pub returns-clause-lessens : goal.returns-clause-lessens
returns-clause-lessens c =
    let sound : IsSoundStage c.args.self.now.stage = subst (λ (m : Move). IsSoundStage m.stage) c.self.view_is c.self.invariant.1 in
    subst (λ (s : Step). Lessens c.args.self.now.stage s.deed s.stage) (sym c.next-step.ensures)
    (lessens c.args.self.now.setup c.args.self.now.stage _ sound)
