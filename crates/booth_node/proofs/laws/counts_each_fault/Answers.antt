use Rattle.booth_node.proofs.DropLemmas.{counts}
use Rattle.booth_node.proofs.laws.counts_each_fault.Goals as goal

pub returns : goal.returns
returns c = counts
