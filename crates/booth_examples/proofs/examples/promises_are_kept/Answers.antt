use Rattle.booth_examples.proofs.WorldRuns.{kept_is_world, first_holds_by_it, second_is_voted}
use Rattle.booth_examples.proofs.examples.promises_are_kept.Goals as goal

pub returns-clause-world : goal.returns-clause-world
returns-clause-world c = kept_is_world

pub returns-clause-first : goal.returns-clause-first
returns-clause-first c = first_holds_by_it

pub returns-clause-second : goal.returns-clause-second
returns-clause-second c = second_is_voted
