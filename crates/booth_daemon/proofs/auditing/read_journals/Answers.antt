use Rattle.std.proofs.Common.{◌≤◌, ℕ, length, sym, subst, arith}
use Rattle.booth_host.specs.Past.{GrewSome}
use Rattle.booth_daemon.specs.Auditing.{AreJournals}
use Rattle.booth_daemon.proofs.AuditingLemmas.{journal_unread, journals_more}
use Rattle.booth_daemon.proofs.RecordLemmas.{one_longer}
use Rattle.booth_daemon.proofs.ServeLemmas.{blamed}
use Rattle.booth_daemon.proofs.auditing.read_journals.Goals as goal

pub returns-in_err-read_journal-clause-past : goal.returns-in_err-read_journal-clause-past
returns-in_err-read_journal-clause-past g c =
    journal_unread c.args.paths.now c.loop-path.path-index c.path-item.result c.loop-path-test.true
    c.path-item.is c.loop-path.journals.items
    (λ journals. GrewSome (AreJournals c.args.paths.now journals.items)
    (g.H.Host.past c.args.host.now) (g.H.Host.past c.read_journal.new.host))
    c.from_residual.result c.in_err-read_journal.field-0.0 c.from_residual.ensures
    c.loop-path.invariant.past c.in_err-read_journal.ensures.past

pub returns-in_err-read_journal-clause-blame : goal.returns-in_err-read_journal-clause-blame
returns-in_err-read_journal-clause-blame g c =
    blamed c.from_residual.result c.in_err-read_journal.field-0.0 (g.H.Host.faults c.args.host.now) (g.H.Host.faults c.loop-path.host)
    (g.H.Host.faults c.read_journal.new.host) c.from_residual.ensures c.loop-path.invariant.later c.in_err-read_journal.ensures.blame

pub loop-path-preserved : goal.loop-path-preserved
loop-path-preserved g c = record {
  past = journals_more c.args.paths.now c.loop-path.path-index c.path-item.result
      c.loop-path-test.true c.path-item.is c.loop-path.journals.items c.in_ok-read_journal.field-0
      c.push_reserved.new.self.items c.push_reserved.ensures.items
      c.loop-path.invariant.past c.in_ok-read_journal.ensures.past;
  count = one_longer c.loop-path.journals.items c.push_reserved.new.self.items c.in_ok-read_journal.field-0
      c.loop-path.path-index c.push_reserved.ensures.items c.loop-path.invariant.count;
  room = subst (λ (n : ℕ). length c.args.paths.now ≤ n) (sym c.push_reserved.ensures.capacity)
      c.loop-path.invariant.room;
  later = omega (arith, c.loop-path.invariant.later, c.in_ok-read_journal.ensures.later);
}
