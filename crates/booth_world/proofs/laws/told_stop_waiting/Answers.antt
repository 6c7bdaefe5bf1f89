use Rattle.booth_world.proofs.WaitingLaws.{told_stop_waiting}
use Rattle.booth_world.proofs.laws.told_stop_waiting.Goals as goal

pub returns : goal.returns
returns c = told_stop_waiting
