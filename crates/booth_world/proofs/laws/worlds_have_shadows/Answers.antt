use Rattle.booth_world.proofs.WorldShadows.{worlds_have_shadows}
use Rattle.booth_world.proofs.laws.worlds_have_shadows.Goals as goal

pub returns : goal.returns
returns c = worlds_have_shadows
