use Rattle.std.proofs.Common.{arith, subst}
use Rattle.booth_conf.specs.Sound.{IsSound}
use Rattle.booth_daemon.proofs.ServeLemmas.{blamed, refused, unkeyed, are_read, unlocked, opened}
use Rattle.booth_daemon.proofs.FitnessLemmas.{found_by_id}
use Rattle.booth_daemon.proofs.opening.open.Goals as goal

pub open_node-requires : goal.open_node-requires
open_node-requires g c =
    found_by_id c.in_ok-config.config c.args.asked.now.site
    (subst IsSound c.config.view_is c.config.invariant.1) c.in_ok-admit.ensures.admitted

pub returns-in_err-admit-clause-past : goal.returns-in_err-admit-clause-past
returns-in_err-admit-clause-past g c =
    refused c.args.asked.now c.in_ok-config.config c.from_residual-in_err-admit.result c.in_err-admit.field-0.0
    c.from_residual-in_err-admit.ensures c.in_ok-config.ensures.past c.in_err-admit.ensures.admitted

pub returns-in_err-ring-clause-past : goal.returns-in_err-ring-clause-past
returns-in_err-ring-clause-past g c =
    unkeyed c.args.asked.now c.in_ok-config.config c.from_residual-in_err-ring.result c.in_err-ring.field-0.0
    c.from_residual-in_err-ring.ensures c.in_ok-config.ensures.past c.in_ok-admit.ensures.admitted c.in_err-ring.ensures.past

pub returns-in_err-ring-clause-blame : goal.returns-in_err-ring-clause-blame
returns-in_err-ring-clause-blame g c =
    blamed c.from_residual-in_err-ring.result c.in_err-ring.field-0.0 (g.H.Host.faults c.args.host.now) (g.H.Host.faults c.read_config.new.host)
    (g.H.Host.faults c.read_ring.new.host) c.from_residual-in_err-ring.ensures c.in_ok-config.ensures.later c.in_err-ring.ensures.blame

pub returns-in_err-lock-clause-past : goal.returns-in_err-lock-clause-past
returns-in_err-lock-clause-past g c =
    unlocked c.args.asked.now c.in_ok-config.config c.in_ok-ring.ring c.from_residual-in_err-lock.result c.in_err-lock.field-0.0
    c.from_residual-in_err-lock.ensures
    (are_read c.args.asked.now c.in_ok-config.config c.in_ok-ring.ring c.in_ok-config.ensures.past c.in_ok-admit.ensures.admitted c.in_ok-ring.ensures.past)
    c.in_err-lock.ensures.past

pub returns-in_err-lock-clause-blame : goal.returns-in_err-lock-clause-blame
returns-in_err-lock-clause-blame g c =
    blamed c.from_residual-in_err-lock.result c.in_err-lock.field-0.0 (g.H.Host.faults c.args.host.now) (g.H.Host.faults c.read_ring.new.host)
    (g.H.Host.faults c.lock.new.host) c.from_residual-in_err-lock.ensures (omega (arith, c.in_ok-config.ensures.later, c.in_ok-ring.ensures.later))
    c.in_err-lock.ensures.blame

pub returns-clause-past : goal.returns-clause-past
returns-clause-past g c =
    opened c.args.asked.now c.in_ok-config.config c.in_ok-ring.ring c.open_node.result
    (are_read c.args.asked.now c.in_ok-config.config c.in_ok-ring.ring c.in_ok-config.ensures.past c.in_ok-admit.ensures.admitted c.in_ok-ring.ensures.past)
    c.in_ok-lock.ensures.past c.open_node.ensures.past
