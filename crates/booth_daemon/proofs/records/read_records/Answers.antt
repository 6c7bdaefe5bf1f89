use Rattle.std.proofs.Common.{◌≤◌, ℕ, length, sym, subst, arith}
use Rattle.booth_host.specs.Past.{GrewSome}
use Rattle.booth_daemon.specs.Records.{AreKept}
use Rattle.booth_daemon.proofs.RecordLemmas.{kept_more, unread_at, one_longer}
use Rattle.booth_daemon.proofs.records.read_records.Goals as goal

pub returns-in_err-read_record-clause-past : goal.returns-in_err-read_record-clause-past
returns-in_err-read_record-clause-past g c =
    unread_at c.args.tickets.now c.loop-ticket.ticket-index c.ticket-item.result c.loop-ticket-test.true
    c.ticket-item.is c.loop-ticket.records.items
    (λ records. GrewSome (AreKept c.args.tickets.now records.items)
    (g.H.Host.past c.args.host.now) (g.H.Host.past c.read_record.new.host))
    c.from_residual.result c.in_err-read_record.field-0.0 c.from_residual.ensures
    c.loop-ticket.invariant.past c.in_err-read_record.ensures.past

pub loop-ticket-preserved : goal.loop-ticket-preserved
loop-ticket-preserved g c = record {
  past = kept_more c.args.tickets.now c.loop-ticket.ticket-index c.ticket-item.result
      c.loop-ticket-test.true c.ticket-item.is c.loop-ticket.records.items c.in_ok-read_record.field-0
      c.push_reserved.new.self.items c.push_reserved.ensures.items
      c.loop-ticket.invariant.past c.in_ok-read_record.ensures.past;
  count = one_longer c.loop-ticket.records.items c.push_reserved.new.self.items c.in_ok-read_record.field-0
      c.loop-ticket.ticket-index c.push_reserved.ensures.items c.loop-ticket.invariant.count;
  room = subst (λ (n : ℕ). length c.args.tickets.now ≤ n) (sym c.push_reserved.ensures.capacity)
      c.loop-ticket.invariant.room;
  later = omega (arith, c.loop-ticket.invariant.later, c.in_ok-read_record.ensures.later);
}
