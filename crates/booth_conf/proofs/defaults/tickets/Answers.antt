use Rattle.std.proofs.Common.{arith}
use Rattle.std.proofs.lemmas.Grind.{common_steps}
use Rattle.booth_conf.proofs.defaults.tickets.Goals as goal

pub loop-named-preserved : goal.loop-named-preserved
loop-named-preserved c = grind (arith, common_steps)
