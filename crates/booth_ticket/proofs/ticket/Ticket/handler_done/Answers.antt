use Rattle.std.proofs.Common.{sym, ap, ◌∙◌}
use Rattle.booth_ticket.specs.declared.ticket.Kind.TheVariants as kinds
use Rattle.booth_ticket.specs.Automatic.{end_job}
use Rattle.booth_ticket.specs.Kinds.{state_of}
use Rattle.booth_ticket.specs.Ticket.{TicketState, ticket_over}
use Rattle.booth_ticket.specs.Waiting.{waiting_at}
use Rattle.booth_ticket.proofs.DidLemmas.{did_end, did_then}
use Rattle.booth_ticket.proofs.KindLemmas.{did_by_kind}
use Rattle.booth_ticket.proofs.SetupLemmas.{left_keeps, ticket_over_keeps}
use Rattle.booth_ticket.proofs.ticket.Ticket.handler_done.Goals.{in-Automatic, in-Manual}
use Rattle.booth_ticket.proofs.ticket.Ticket.handler_done.Goals as goal

pub returns-clause-did : goal.returns-clause-did
unfolding end_job
returns-clause-did g c =
    let waiting = waiting_at c.args.waiters.now c.args.list in
    let deeds = λ (s : TicketState). ticket_over s.setup s.known waiting c.args.job c.args.service c.args.now in
    elim c.match-self.branch [
      | in-Automatic w ↦
          did_by_kind deeds c.args.list (state_of (kinds.Automatic w.in-Automatic.core)) c.args.self.now
          (record { kind = kinds.Automatic w.hear_job-last.new.core }) c.match-self.self-inside w.tell.new.waiters c.match-self.waiters
          (sym c.self.view_is ∙ ap state_of w.in-Automatic.is) w.self-inside-is w.waiters-is w.hands-is
          (did_then _ (did_then _ w.hear_job-last.ensures.did w.tell.ensures.did) did_end)
      | in-Manual w ↦
          did_by_kind deeds c.args.list (state_of (kinds.Manual w.in-Manual.ticket)) c.args.self.now
          (record { kind = kinds.Manual w.handler_done.new.self }) c.match-self.self-inside w.handler_done.new.waiters c.match-self.waiters
          (sym c.self.view_is ∙ ap state_of w.in-Manual.is) w.self-inside-is w.waiters-is w.hands-is
          (did_then _ w.handler_done.ensures.did did_end)
    ]

pub returns-clause-setup : goal.returns-clause-setup
returns-clause-setup g c =
    let self = c.args.self.now in
    left_keeps self.setup
    (λ acts left. ticket_over_keeps self.setup self.known (waiting_at c.args.waiters.now c.args.list) acts left
    c.args.job c.args.service c.args.now)
    (returns-clause-did g c)
