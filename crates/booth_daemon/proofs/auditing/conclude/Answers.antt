use Rattle.booth_daemon.proofs.AuditingLemmas.{faulty, printed}
use Rattle.booth_daemon.proofs.auditing.conclude.Goals as goal

pub returns-in-Ok-clause-past : goal.returns-in-Ok-clause-past
returns-in-Ok-clause-past g c =
    printed c.args.files.now.config c.args.files.now.ring c.args.paths.now c.args.files.now.journals.items _
    c.print.result.outcome c.print.result.said
    (rw (c.as_ref.ensures.value, c.deref.ensures.value) at c.in-Ok.ensures.audited) c.print.ensures.past

pub returns-in-Err-clause-past : goal.returns-in-Err-clause-past
returns-in-Err-clause-past g c =
    faulty c.args.files.now.config c.args.files.now.ring c.args.paths.now c.args.files.now.journals.items c.in-Err.fault
    c.refuse.result.outcome c.refuse.result.said
    (rw (c.as_ref.ensures.value, c.deref.ensures.value) at c.in-Err.ensures.fault) c.refuse.ensures.end
