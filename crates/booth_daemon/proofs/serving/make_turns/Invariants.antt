use Rattle.std.proofs.Common.{◌≡◌, ◌≤◌}
use Rattle.booth_host.specs.Past.{GrewSome}
use Rattle.booth_node.specs.View.{node_config, state_of}
use Rattle.booth_node.specs.Log.{IsNodeLog}
use Rattle.booth_daemon.proofs.serving.make_turns.Given as goal

abbrev pub invariant-loop-turn : goal.invariant-loop-turn
invariant-loop-turn g l = record {
  past : GrewSome (λ es. IsNodeLog (node_config l.fn.node) (state_of l.fn.node) l._turn (state_of l.node) es) (g.H.Host.past l.fn.host) (g.H.Host.past l.host);
  node : node_config l.node ≡ node_config l.fn.node;
  later : g.H.Host.faults l.fn.host ≤ g.H.Host.faults l.host;
}
