use Rattle.booth_node.proofs.TicketLemmas.{opens}
use Rattle.booth_node.proofs.laws.opens_with_its_tickets.Goals as goal

pub returns : goal.returns
returns c = opens
