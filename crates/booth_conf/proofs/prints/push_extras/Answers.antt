use Rattle.std.proofs.Common.{arith}
use Rattle.std.proofs.lemmas.Grind.{common_steps}
use Rattle.std.proofs.lemmas.List.{map_more}
use Rattle.booth_conf.proofs.LineLemmas.{entries_append, entries_more}
use Rattle.booth_conf.proofs.prints.push_extras.Goals as goal

pub loop-extra-preserved : goal.loop-extra-preserved
loop-extra-preserved c = grind (arith, common_steps, entries_more, map_more, entries_append)
