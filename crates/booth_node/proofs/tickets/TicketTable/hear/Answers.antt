use Rattle.std.proofs.Common.{◌<◌, List, length, refl, sym, subst}
use Rattle.std.specs.List.{All}
use Rattle.booth_ticket.specs.Ticket.{TicketState}
use Rattle.booth_node.specs.Ours.{IsOurs}
use Rattle.booth_node.specs.declared.event.Event.TheVariants.{Heard}
use Rattle.booth_node.specs.State.{state_of_parts}
use Rattle.booth_node.proofs.ActLemmas.{heard_so, same_state}
use Rattle.booth_node.proofs.PlaceLemmas.{may_hear}
use Rattle.booth_node.proofs.tickets.TicketTable.hear.Goals as goal

pub act-requires-clause-may : goal.act-requires-clause-may
act-requires-clause-may g c =
    let node = c.args.self.now.node in
    may_hear node.me node.config.members c.accept.new.self.tickets.items c.args.from c.args.ticket c.args.now
    c.args.head c.args.part
    (subst (λ (ts : List TicketState). All (IsOurs node.me node.config.members) ts)
    (sym c.accept.ensures.tickets) c.args.self.now.ours)
    (subst (λ (ts : List TicketState). c.args.ticket < length ts) (sym c.accept.ensures.tickets)
    c.requires.there)
    c.requires.member c.requires.other

pub returns-clause-led : goal.returns-clause-led
returns-clause-led g c =
    let old = c.args.self.now in
    let new = c.accept.new.self in
    heard_so old.node new.node c.args.now c.args.from c.args.ticket
    (Heard c.args.from c.args.head c.args.part)
    (state_of_parts old.tickets.items old.waiters old.attrs old.common c.args.now)
    (state_of_parts new.tickets.items new.waiters new.attrs new.common c.args.now) _ new.common c.accept.ensures.node
    (same_state c.args.now c.accept.ensures.tickets c.accept.ensures.waiters c.accept.ensures.attributes refl)
    c.accept.ensures.common c.act.ensures.led
