use Rattle.booth_node.proofs.DropLemmas.{alone}
use Rattle.booth_node.proofs.laws.drops_alone.Goals as goal

pub returns : goal.returns
returns c = alone
