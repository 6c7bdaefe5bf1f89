use Rattle.std.proofs.Common.{◌∙◌, ap, subst, sym}
use Rattle.std.specs.Prelude.{None}
use Rattle.booth_ticket.specs.Acts.{Did}
use Rattle.booth_ticket.specs.Manual.{ManualLeft, ManualState, ticket_as}
use Rattle.booth_ticket.specs.ManualHandling.{greeting, manual_due}
use Rattle.booth_ticket.specs.Waiting.{waiting_at}
use Rattle.booth_ticket.proofs.DidLemmas.{did_then}
use Rattle.booth_ticket.proofs.SayLemmas.{said_so}
use Rattle.booth_ticket.proofs.manual.ManualTicket.tick.Goals as goal

pub returns-clause-did : goal.returns-clause-did
unfolding manual_due
returns-clause-did g c =
    let rules = c.self.inside.rules in
    let ticket = ticket_as rules c.self.inside.greets_at c.self.inside.running in
    let waiting = waiting_at c.args.waiters.now c.args.list in
    let left : ManualLeft = record { ticket = c.end_late.new.self; waiters = waiting_at c.end_late.new.waiters c.args.list } in
    subst (λ (t : ManualState). Did g.W.Hands.did (manual_due t waiting c.args.now) left
    c.args.hands.now c.end_late.new.hands) c.self.view_is
    (did_then _
    (said_so rules.setup c.setup.result.now None (greeting ticket.setup ticket.known) c.greeting.result c.setup.ensures
    (c.greeting.ensures ∙ ap (λ (t : ManualState). greeting t.setup t.known) (sym c.self.view_is)) c.say.ensures.did)
    c.end_late.ensures.did)
