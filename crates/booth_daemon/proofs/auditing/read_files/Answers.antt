use Rattle.std.proofs.Common.{arith}
use Rattle.booth_daemon.proofs.AuditingLemmas.{all_read, ends_keyless, ends_unread, keyed, unkeyed, unread, wanting}
use Rattle.booth_daemon.proofs.ServeLemmas.{blamed}
use Rattle.booth_daemon.proofs.auditing.read_files.Goals as goal

pub returns-in_err-config-clause-past : goal.returns-in_err-config-clause-past
returns-in_err-config-clause-past g c =
    unread c.args.asked.now c.from_residual.result c.in_err-config.field-0.0 c.from_residual.ensures
    c.in_err-config.ensures.past

pub returns-in_err-config-clause-outcome : goal.returns-in_err-config-clause-outcome
returns-in_err-config-clause-outcome g c =
    ends_unread c.from_residual.result c.in_err-config.field-0.0 c.from_residual.ensures c.in_err-config.ensures.unread

pub returns-in_err-ring-clause-past : goal.returns-in_err-ring-clause-past
returns-in_err-ring-clause-past g c =
    unkeyed c.args.asked.now c.in_ok-config.config c.from_residual-in_err-ring.result c.in_err-ring.field-0.0
    c.from_residual-in_err-ring.ensures c.in_ok-config.ensures.past c.in_err-ring.ensures.past

pub returns-in_err-ring-clause-outcome : goal.returns-in_err-ring-clause-outcome
returns-in_err-ring-clause-outcome g c =
    ends_keyless c.from_residual-in_err-ring.result c.in_err-ring.field-0.0 c.from_residual-in_err-ring.ensures c.in_err-ring.ensures.keyless

pub returns-in_err-ring-clause-blame : goal.returns-in_err-ring-clause-blame
returns-in_err-ring-clause-blame g c =
    blamed c.from_residual-in_err-ring.result c.in_err-ring.field-0.0 (g.H.Host.faults c.args.host.now) (g.H.Host.faults c.read_config.new.host)
    (g.H.Host.faults c.read_ring.new.host) c.from_residual-in_err-ring.ensures c.in_ok-config.ensures.later c.in_err-ring.ensures.blame

pub returns-in_err-journals-clause-past : goal.returns-in_err-journals-clause-past
returns-in_err-journals-clause-past g c =
    wanting c.args.asked.now c.in_ok-config.config c.in_ok-ring.ring c.from_residual-in_err-journals.result c.in_err-journals.field-0.0
    c.from_residual-in_err-journals.ensures
    (keyed c.args.asked.now c.in_ok-config.config c.in_ok-ring.ring c.in_ok-config.ensures.past c.in_ok-ring.ensures.past)
    (rw c.deref.ensures.value at c.in_err-journals.ensures.past)

pub returns-in_err-journals-clause-blame : goal.returns-in_err-journals-clause-blame
returns-in_err-journals-clause-blame g c =
    blamed c.from_residual-in_err-journals.result c.in_err-journals.field-0.0 (g.H.Host.faults c.args.host.now) (g.H.Host.faults c.read_ring.new.host)
    (g.H.Host.faults c.read_journals.new.host) c.from_residual-in_err-journals.ensures
    (omega (arith, c.in_ok-config.ensures.later, c.in_ok-ring.ensures.later)) c.in_err-journals.ensures.blame

pub returns-clause-past : goal.returns-clause-past
returns-clause-past g c =
    all_read c.args.asked.now c.in_ok-config.config c.in_ok-ring.ring c.in_ok-journals.journals.items
    (keyed c.args.asked.now c.in_ok-config.config c.in_ok-ring.ring c.in_ok-config.ensures.past c.in_ok-ring.ensures.past)
    (rw c.deref.ensures.value at c.in_ok-journals.ensures.past)
