use Rattle.std.proofs.Common.{arith}
use Rattle.std.proofs.lemmas.Grind.{common_steps}
use Rattle.booth_conf.proofs.tickets.copy_list.Goals as goal

pub loop-prereq-preserved : goal.loop-prereq-preserved
loop-prereq-preserved c = grind (arith, common_steps)
