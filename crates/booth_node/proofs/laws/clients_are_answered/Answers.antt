use Rattle.booth_node.proofs.ClientLemmas.{clients}
use Rattle.booth_node.proofs.laws.clients_are_answered.Goals as goal

pub returns : goal.returns
returns c = clients
