-- A member has kept nothing when it starts for the first time.
use Rattle.booth_sim.proofs.Starting.{started_first}
use Rattle.booth_sim.proofs.daemon.Daemon.new.Goals as goal

pub returns : goal.returns
returns c =
    started_first c.args.config.now c.args.place c.tickets.result.now c.tickets.ensures.value
    (record { node = c.in_ok-start_node.field-0; host = c.in_ok-new_host.field-0; kept = c.in_ok-kept.kept })
    c.in_ok-kept.ensures c.in_ok-start_node.ensures.node
    c.deref.result.now c.deref.ensures.value c.in_ok-start_node.ensures.state
