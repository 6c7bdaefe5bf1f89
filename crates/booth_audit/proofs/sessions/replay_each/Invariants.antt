use Rattle.std.proofs.Common.{◌≡◌, List, length}
use Rattle.booth_journal.specs.Says.{Said, Says}
use Rattle.booth_node.specs.View.{node_config, state_of}
use Rattle.booth_audit.specs.Course.{IsGoing}
use Rattle.booth_audit.proofs.sessions.replay_each.Given as goal

abbrev pub invariant-turns : goal.invariant-turns
invariant-turns l = record {
  member : node_config l.node ≡ l.whose.node;
  going : (left : List Said) → Says l.fn.from.rest.now left
      → IsGoing l.whose (state_of l.fn.node) (state_of l.node) l.fn.from.rest.now l.fn.from.line left
      l.fn.tally l.tally l.left.rest.now l.left.line;
}

abbrev pub decreases-turns : goal.decreases-turns
decreases-turns l = length l.left.rest.now
