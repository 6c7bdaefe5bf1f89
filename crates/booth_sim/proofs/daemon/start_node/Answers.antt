-- The node is opened with a copy of the configuration, and by the id of the member at the place.
use Rattle.std.proofs.Common.{subst, sym, IsSome}
use Rattle.std.specs.Prelude.{position}
use Rattle.booth_conf.specs.Config.{ConfigSays, has_id}
use Rattle.booth_sim.proofs.Starting.{opened_node, opened_state}
use Rattle.booth_sim.proofs.daemon.start_node.Goals as goal

pub open_ring-requires-clause-member : goal.open_ring-requires-clause-member
open_ring-requires-clause-member c =
    subst (λ (config : ConfigSays). IsSome (position (has_id c.id_at-me.result) config.members)) (sym c.in_ok-copy.ensures) c.id_at-me.ensures.known

pub returns-clause-node : goal.returns-clause-node
returns-clause-node c =
    opened_node c.open_ring.result c.args.config.now c.in_ok-copy.field-0 c.args.place c.id_at-me.result c.in_ok-copy.ensures c.id_at-me.ensures.same c.open_ring.ensures.node

pub returns-clause-state : goal.returns-clause-state
returns-clause-state c =
    opened_state c.open_ring.result c.args.config.now c.in_ok-copy.field-0 c.args.place c.id_at-me.result c.args.kept.now c.args.reading c.in_ok-copy.ensures
    c.id_at-me.ensures.same c.open_ring.ensures.state
