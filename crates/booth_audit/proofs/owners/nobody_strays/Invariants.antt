use Rattle.std.proofs.Common.{◌≡◌, List, [], length}
use Rattle.booth_journal.specs.Says.{Said, Says}
use Rattle.booth_node.specs.declared.node_config.NodeConfig.{NodeConfig}
use Rattle.booth_audit.specs.Faults.{opened_in}
use Rattle.booth_audit.proofs.OwnerLemmas.{IsIdleSo, IsLeft}
use Rattle.booth_audit.proofs.owners.nobody_strays.Given as goal

-- nothing was done up to this line, and these bytes are left
abbrev pub invariant-calls : goal.invariant-calls
invariant-calls l = record {
  left : (all : List Said) → Says l.fn.text all → IsLeft l.fn.text l.rest l.line;
  so_far : (node : NodeConfig) (all : List Said) → Says l.fn.text all → opened_in all ≡ []
      → IsIdleSo node l.fn.text all l.rest l.line;
}

abbrev pub decreases-calls : goal.decreases-calls
decreases-calls l = length l.rest
