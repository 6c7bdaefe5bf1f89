use Rattle.booth_daemon.proofs.AuditingLemmas.{audited}
use Rattle.booth_daemon.proofs.ServeLemmas.{blame_since}
use Rattle.booth_daemon.proofs.auditing.audit.Goals as goal

pub returns-in-Ok-clause-past : goal.returns-in-Ok-clause-past
returns-in-Ok-clause-past g c =
    audited c.args.asked.now c.in-Ok.files.config c.in-Ok.files.ring c.in-Ok.files.journals.items
    c.conclude.result.outcome c.conclude.result.said c.in-Ok.ensures.past (rw c.deref.ensures.value at c.conclude.ensures.past)

pub returns-in-Ok-clause-blame : goal.returns-in-Ok-clause-blame
returns-in-Ok-clause-blame g c =
    blame_since c.conclude.result.outcome (g.H.Host.faults c.args.host.now) (g.H.Host.faults c.read_files.new.host)
    (g.H.Host.faults c.conclude.new.host) c.in-Ok.ensures.later c.conclude.ensures.blame
