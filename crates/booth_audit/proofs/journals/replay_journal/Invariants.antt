use Rattle.std.proofs.Common.{List, length}
use Rattle.booth_journal.specs.Says.{Said, Says}
use Rattle.booth_audit.specs.Course.{IsIdle}
use Rattle.booth_audit.proofs.journals.replay_journal.Given as goal

abbrev pub invariant-runs : goal.invariant-runs
invariant-runs l = record {
  idle : (all : List Said) → Says l.fn.text all
      → IsIdle l.whose l.fn.text all l.tally l.left.rest.now l.left.line;
}

abbrev pub decreases-runs : goal.decreases-runs
decreases-runs l = length l.left.rest.now
