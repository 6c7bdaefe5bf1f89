use Rattle.booth_world.proofs.KeptLaws.{failed_keeps_say_nothing}
use Rattle.booth_world.proofs.laws.failed_keeps_say_nothing.Goals as goal

pub returns : goal.returns
returns c = failed_keeps_say_nothing
