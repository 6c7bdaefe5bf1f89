use Rattle.std.proofs.Common.{◌≡◌, length}
use Rattle.trials.specs.Far.{AreFarBelow}
use Rattle.trials.proofs.asking.set_each.Given as goal

abbrev pub invariant-loop-slot : goal.invariant-loop-slot
invariant-loop-slot l = record {
  far : AreFarBelow l.slot l.wheel.deadlines;
  slots : length l.wheel.deadlines ≡ l.slots;
  last : l.wheel.last ≡ 0;
  swept : l.wheel.swept ≡ 0;
}
