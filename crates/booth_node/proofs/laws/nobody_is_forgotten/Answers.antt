use Rattle.booth_node.proofs.ClientLemmas.{nobody}
use Rattle.booth_node.proofs.laws.nobody_is_forgotten.Goals as goal

pub returns : goal.returns
returns c = nobody
