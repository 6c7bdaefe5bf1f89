use Rattle.std.proofs.Common.{◌≡◌, ◌+◌, ◌*◌, ◌/◌, ◌≤◌}
use Rattle.trials.specs.Far.{AreFar}
use Rattle.trials.proofs.asking.ask_each.Given as goal

abbrev pub invariant-loop-now : goal.invariant-loop-now
invariant-loop-now g l = record {
  none : l.none ≡ 16 * l.now;
  steps : l.steps ≤ l.fn.steps + 16 * l.now + l.wheel.swept / 128;
  far : AreFar l.wheel.deadlines;
  last : l.wheel.last ≤ l.now;
  before : l.wheel.last ≤ l.until;
  swept : l.wheel.swept ≡ l.wheel.last;
}
