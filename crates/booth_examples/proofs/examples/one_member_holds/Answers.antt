use Rattle.booth_examples.proofs.WorldRuns.{one_is_world, one_is_held}
use Rattle.booth_examples.proofs.examples.one_member_holds.Goals as goal

pub returns-clause-world : goal.returns-clause-world
returns-clause-world c = one_is_world

pub returns-clause-holds : goal.returns-clause-holds
returns-clause-holds c = one_is_held
