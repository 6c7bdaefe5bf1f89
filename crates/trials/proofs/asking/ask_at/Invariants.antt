use Rattle.std.proofs.Common.{◌≡◌, ◌+◌, ◌/◌, ◌≤◌}
use Rattle.trials.specs.Far.{AreFar}
use Rattle.trials.proofs.asking.ask_at.Given as goal

abbrev pub invariant-loop-again : goal.invariant-loop-again
invariant-loop-again g l = record {
  none : l.none ≡ l._again;
  steps : l.steps + l.fn.wheel.swept / 128 ≤ l.fn.steps + l._again + l.wheel.swept / 128;
  far : AreFar l.wheel.deadlines;
  last : l.wheel.last ≤ l.now;
  swept : l.wheel.swept ≡ l.wheel.last;
}
