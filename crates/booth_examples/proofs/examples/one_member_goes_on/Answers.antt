use Rattle.booth_examples.proofs.WorldRuns.{on_is_world, on_is_held}
use Rattle.booth_examples.proofs.examples.one_member_goes_on.Goals as goal

pub returns-clause-world : goal.returns-clause-world
returns-clause-world c = on_is_world

pub returns-clause-holds : goal.returns-clause-holds
returns-clause-holds c = on_is_held
