use Rattle.std.proofs.Common.{Bool, refl, ap, subst, sym, ◌∙◌}
use Rattle.std.specs.Prelude.{None, if◌then◌else◌}
use Rattle.booth_base.specs.Tree.{Ends}
use Rattle.booth_wire.specs.declared.message.Setup.{Setup}
use Rattle.booth_raft.specs.Sound.{IsSound}
use Rattle.booth_ticket.specs.Acts.{Did}
use Rattle.booth_ticket.specs.Manual.{ManualLeft, ManualState, ticket_as}
use Rattle.booth_ticket.specs.ManualHandling.{end_handler, is_awaited, manual_over}
use Rattle.booth_ticket.specs.Waiting.{waiting_at}
use Rattle.booth_ticket.proofs.DidLemmas.{did_as, did_end, did_then}
use Rattle.booth_ticket.proofs.SetupLemmas.{after_keeps}
use Rattle.booth_ticket.proofs.manual.ManualTicket.handler_done.Goals as goal

pub returns-clause-did : goal.returns-clause-did
unfolding end_handler
returns-clause-did g c =
    let ticket = ticket_as c.self.inside.rules c.self.inside.greets_at c.self.inside.running in
    let waiting = waiting_at c.args.waiters.now c.args.list in
    let left : ManualLeft = record {
      ticket = ticket_as c.grant_after-told.new.rules c.self.inside.greets_at None;
      waiters = waiting_at c.tell_waiters.new.waiters c.args.list;
    } in
    subst (λ (t : ManualState). Did g.W.Hands.did (manual_over t waiting c.args.job c.args.service) left
    c.args.hands.now c.tell_waiters.new.hands) c.self.view_is
    (did_as
    (ap (λ (o : Bool). if o then end_handler ticket waiting c.args.service else Ends (record { ticket = ticket; waiters = waiting }))
    (sym (ap (λ (t : ManualState). is_awaited t.known.job c.args.job) c.self.view_is ∙ sym c.awaits.ensures
    ∙ c.if-not-awaits.false)))
    refl
    (did_then _ c.grant_after-told.ensures.did (did_then _ c.tell_waiters.ensures.did did_end)))

pub invariant_of-self : goal.invariant_of-self
invariant_of-self g c = (
  subst (λ (s : Setup). IsSound s)
      (sym (after_keeps c.self.inside.rules c.args.service c.grant_after-told.ensures.did.acts
      (record { told = c.grant_after-told.result; rules = c.grant_after-told.new.rules }) c.grant_after-told.ensures.did.leads))
      c.self.invariant.0,
  c.grant_after-told.ensures.idle,
)
