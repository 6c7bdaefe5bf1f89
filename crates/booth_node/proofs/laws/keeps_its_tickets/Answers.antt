use Rattle.booth_node.proofs.TicketLemmas.{keeps}
use Rattle.booth_node.proofs.laws.keeps_its_tickets.Goals as goal

pub returns : goal.returns
returns c = keeps
