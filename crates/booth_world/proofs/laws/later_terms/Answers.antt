use Rattle.booth_world.proofs.LaterTerms.{runs_rise}
use Rattle.booth_world.proofs.WorldLaws.{later_holders}
use Rattle.booth_world.proofs.laws.later_terms.Goals as goal

pub returns-clause-steps : goal.returns-clause-steps
returns-clause-steps c = runs_rise

pub returns-clause-worlds : goal.returns-clause-worlds
returns-clause-worlds c = later_holders
