use Rattle.std.proofs.Common.{◌<◌, length}
use Rattle.trials.proofs.removing.push_each.Given as goal

abbrev pub invariant-loop-item : goal.invariant-loop-item
invariant-loop-item l = 0 < length l.chains.lists
