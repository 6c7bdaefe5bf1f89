use Rattle.std.proofs.Common.{arith}
use Rattle.trials.proofs.FarLemmas.{few_steps}
use Rattle.trials.proofs.asking.finds_none.Goals as goal

pub returns-in-None-clause-steps : goal.returns-in-None-clause-steps
returns-in-None-clause-steps g c =
    omega (arith, c.in-None.ensures.steps, few_steps c.args.wheel.now c.args.now c.requires.far (omega (arith, c.requires.swept, c.requires.later)) c.requires.early)
