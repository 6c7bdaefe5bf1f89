use Rattle.std.proofs.Common.{◌≡◌, ◌≤◌, length}
use Rattle.trials.proofs.renewing.renew_counted.Given as goal

abbrev pub invariant-loop-now : goal.invariant-loop-now
invariant-loop-now g l = record {
  slots : length l.wheel.deadlines ≡ l.slots;
  last : l.wheel.last ≤ l.now;
}
