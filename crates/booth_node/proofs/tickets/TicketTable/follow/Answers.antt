use Rattle.booth_node.proofs.RoutingLemmas.{other_place}
use Rattle.booth_node.proofs.tickets.TicketTable.follow.Goals as goal

pub hear-requires-clause-other : goal.hear-requires-clause-other
hear-requires-clause-other g c =
    let node = c.args.self.now.node in
    other_place node.config.members c.args.message.now.head.from node.me c.in-Hear.from c.requires.other c.in-Hear.ensures.placed.0
