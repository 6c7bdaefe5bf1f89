use Rattle.booth_node.proofs.MayLemmas.{grants}
use Rattle.booth_node.proofs.laws.grants_ask_all.Goals as goal

pub returns : goal.returns
returns c = grants
