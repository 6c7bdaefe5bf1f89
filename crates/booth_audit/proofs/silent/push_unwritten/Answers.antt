use Rattle.booth_audit.proofs.UnwrittenLemmas.{more_unwritten}
use Rattle.booth_audit.proofs.silent.push_unwritten.Goals as goal

pub loop-ticket-preserved : goal.loop-ticket-preserved
loop-ticket-preserved c =
    more_unwritten c.args.all.now c.args.records.now c.args.last c.loop-ticket.ticket c.answer_line.result
    c.loop-ticket.reads.items c.loop-ticket-test.true c.answer_line.ensures c.in_ok-push_at.ensures
    c.loop-ticket.invariant
