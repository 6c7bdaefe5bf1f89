use Rattle.std.proofs.Common.{Bool, refl, ap, subst, sym, ◌∙◌}
use Rattle.std.specs.Prelude.{None, if◌then◌else◌}
use Rattle.booth_base.specs.Tree.{Ends}
use Rattle.booth_ticket.specs.Acts.{Did}
use Rattle.booth_ticket.specs.Manual.{ManualLeft, ManualState, ticket_as}
use Rattle.booth_ticket.specs.ManualHandling.{fail_handler, is_late, limit_due}
use Rattle.booth_ticket.specs.Waiting.{waiting_at}
use Rattle.booth_ticket.proofs.DidLemmas.{did_as, did_end, did_then}
use Rattle.booth_ticket.proofs.manual.ManualTicket.end_late.Goals as goal

pub returns-clause-did : goal.returns-clause-did
unfolding fail_handler
returns-clause-did g c =
    let ticket = ticket_as c.self.inside.rules c.self.inside.greets_at c.self.inside.running in
    let waiting = waiting_at c.args.waiters.now c.args.list in
    let left : ManualLeft = record {
      ticket = ticket_as c.self.inside.rules c.self.inside.greets_at None;
      waiters = waiting_at c.tell_waiters.new.waiters c.args.list;
    } in
    subst (λ (t : ManualState). Did g.W.Hands.did (limit_due t waiting c.args.now) left
    c.args.hands.now c.tell_waiters.new.hands) c.self.view_is
    (did_as
    (ap (λ (o : Bool). if o then fail_handler ticket waiting else Ends (record { ticket = ticket; waiters = waiting }))
    (sym (ap (λ (t : ManualState). is_late t.known.job c.args.now) c.self.view_is ∙ sym c.is_late.ensures
    ∙ c.if-not-is_late.false)))
    refl
    (did_then _ c.tell_waiters.ensures.did did_end))
