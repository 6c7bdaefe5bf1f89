use Rattle.std.proofs.Common.{sym, ap, ◌∙◌}
use Rattle.booth_ticket.specs.declared.ticket.Kind.TheVariants as kinds
use Rattle.booth_ticket.specs.Kinds.{state_of}
use Rattle.booth_ticket.specs.Ticket.{TicketState, ticket_asked}
use Rattle.booth_ticket.specs.Waiting.{spare_in, waiting_at}
use Rattle.booth_ticket.proofs.DidLemmas.{did_end, did_then}
use Rattle.booth_ticket.proofs.KindLemmas.{did_by_kind}
use Rattle.booth_ticket.proofs.SetupLemmas.{left_keeps, ticket_asked_keeps}
use Rattle.booth_ticket.proofs.ticket.Ticket.client.Goals.{in-Automatic, in-Manual}
use Rattle.booth_ticket.proofs.ticket.Ticket.client.Goals as goal

pub returns-clause-did : goal.returns-clause-did
returns-clause-did g c =
    let waiting = waiting_at c.args.waiters.now c.args.list in
    let deeds = λ (s : TicketState). ticket_asked s.setup s.known waiting (spare_in c.args.waiters.now) (record { now = c.args.now; ready = c.args.ready; job = c.args.job }) c.args.request.now in
    elim c.match-self.branch [
      | in-Automatic w ↦
          did_by_kind deeds c.args.list (state_of (kinds.Automatic w.in-Automatic.core)) c.args.self.now
          (record { kind = kinds.Automatic w.follow_request.new.core }) c.match-self.self-inside w.follow_request.new.waiters c.match-self.waiters
          (sym c.self.view_is ∙ ap state_of w.in-Automatic.is) w.self-inside-is w.waiters-is w.hands-is
          (did_then _ w.follow_request.ensures.did did_end)
      | in-Manual w ↦
          did_by_kind deeds c.args.list (state_of (kinds.Manual w.in-Manual.ticket)) c.args.self.now
          (record { kind = kinds.Manual w.client.new.self }) c.match-self.self-inside w.client.new.waiters c.match-self.waiters
          (sym c.self.view_is ∙ ap state_of w.in-Manual.is) w.self-inside-is w.waiters-is w.hands-is
          (did_then _ w.client.ensures.did did_end)
    ]

pub returns-clause-setup : goal.returns-clause-setup
returns-clause-setup g c =
    let self = c.args.self.now in
    left_keeps self.setup
    (λ acts left. ticket_asked_keeps self.setup self.known (waiting_at c.args.waiters.now c.args.list) acts left
    (spare_in c.args.waiters.now) (record { now = c.args.now; ready = c.args.ready; job = c.args.job }) c.args.request.now)
    (returns-clause-did g c)
