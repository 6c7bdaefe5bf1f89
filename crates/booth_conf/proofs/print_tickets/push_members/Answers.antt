use Rattle.std.proofs.Common.{arith}
use Rattle.std.proofs.lemmas.Grind.{common_steps}
use Rattle.std.proofs.lemmas.List.{map_more}
use Rattle.booth_conf.proofs.LineLemmas.{lines_append, lines_more}
use Rattle.booth_conf.proofs.print_tickets.push_members.Goals as goal

pub loop-member-preserved : goal.loop-member-preserved
loop-member-preserved c = grind (arith, common_steps, lines_more, map_more, lines_append)
