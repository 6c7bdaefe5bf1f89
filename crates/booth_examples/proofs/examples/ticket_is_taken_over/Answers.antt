use Rattle.std.proofs.Common.{false}
use Rattle.booth_world.proofs.WorldShadows.{worlds_have_shadows}
use Rattle.booth_world.proofs.Untimed.{untimed}
use Rattle.booth_world.proofs.Stays.{not_up}
use Rattle.booth_examples.specs.TakeOverExample.{taken_over}
use Rattle.booth_examples.specs.WorldExamples.{web}
use Rattle.booth_examples.proofs.WorldRuns.{taken_over_is_world, first_holds_it, second_takes_it}
use Rattle.booth_examples.proofs.TellingRuns.{first_tells_it, second_tells_it}
use Rattle.booth_examples.proofs.examples.ticket_is_taken_over.Goals as goal

pub returns-clause-world : goal.returns-clause-world
returns-clause-world c = taken_over_is_world

pub returns-clause-first : goal.returns-clause-first
returns-clause-first c = first_holds_it

pub returns-clause-second : goal.returns-clause-second
returns-clause-second c = second_takes_it

pub returns-clause-shadows : goal.returns-clause-shadows
returns-clause-shadows c = worlds_have_shadows taken_over (untimed taken_over taken_over_is_world) false (λ e. absurd (not_up e)) web first_holds_it.automatic

pub returns-clause-first_tells : goal.returns-clause-first_tells
returns-clause-first_tells c = first_tells_it

pub returns-clause-second_tells : goal.returns-clause-second_tells
returns-clause-second_tells c = second_tells_it
