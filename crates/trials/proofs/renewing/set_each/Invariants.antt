use Rattle.std.proofs.Common.{◌≡◌, length}
use Rattle.trials.proofs.renewing.set_each.Given as goal

abbrev pub invariant-loop-slot : goal.invariant-loop-slot
invariant-loop-slot l = record {
  slots : length l.wheel.deadlines ≡ l.slots;
  last : l.wheel.last ≡ l.fn.wheel.last;
}
