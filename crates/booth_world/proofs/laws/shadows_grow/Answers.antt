use Rattle.booth_world.proofs.WorldGrowth.{shadows_grow}
use Rattle.booth_world.proofs.laws.shadows_grow.Goals as goal

pub returns : goal.returns
returns c = shadows_grow
