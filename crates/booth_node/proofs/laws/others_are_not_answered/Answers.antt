use Rattle.booth_node.proofs.ClientLemmas.{others}
use Rattle.booth_node.proofs.laws.others_are_not_answered.Goals as goal

pub returns : goal.returns
returns c = others
