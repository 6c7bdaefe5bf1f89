use Rattle.booth_world.proofs.DeadlineLaws.{waiters_have_deadlines}
use Rattle.booth_world.proofs.laws.waiters_have_deadlines.Goals as goal

pub returns : goal.returns
returns c = waiters_have_deadlines
