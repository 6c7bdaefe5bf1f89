use Rattle.booth_node.proofs.DropLemmas.{rests_not}
use Rattle.booth_node.proofs.laws.nothing_rests.Goals as goal

pub returns : goal.returns
returns c = rests_not
