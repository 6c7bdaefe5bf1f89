use Rattle.std.proofs.Common.{arith}
use Rattle.std.proofs.lemmas.Grind.{common_steps}
use Rattle.std.proofs.lemmas.List.{map_more}
use Rattle.booth_conf.proofs.LineLemmas.{entries_append, entries_more}
use Rattle.booth_conf.proofs.print_tickets.push_prereqs.Goals as goal

pub loop-prereq-preserved : goal.loop-prereq-preserved
loop-prereq-preserved c = grind (arith, common_steps, entries_more, map_more, entries_append)
