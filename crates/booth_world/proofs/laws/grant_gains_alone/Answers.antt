use Rattle.booth_world.proofs.AloneLemmas.{grant_gains_alone}
use Rattle.booth_world.proofs.laws.grant_gains_alone.Goals as goal

pub returns : goal.returns
returns c = grant_gains_alone
