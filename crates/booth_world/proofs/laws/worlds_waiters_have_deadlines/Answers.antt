use Rattle.booth_world.proofs.DeadlineWorlds.{worlds_waiters}
use Rattle.booth_world.proofs.laws.worlds_waiters_have_deadlines.Goals as goal

pub returns : goal.returns
returns c = worlds_waiters
