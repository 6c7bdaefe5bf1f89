use Rattle.booth_examples.proofs.WorldRuns.{second_is_world, all_are_second, one_holds_first, two_holds_then}
use Rattle.booth_examples.proofs.examples.second_holder_follows.Goals as goal

pub returns-clause-world : goal.returns-clause-world
returns-clause-world c = second_is_world

pub returns-clause-second : goal.returns-clause-second
returns-clause-second c = all_are_second

pub returns-clause-first_holds : goal.returns-clause-first_holds
returns-clause-first_holds c = one_holds_first

pub returns-clause-then_holds : goal.returns-clause-then_holds
returns-clause-then_holds c = two_holds_then
