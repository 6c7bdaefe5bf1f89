use Rattle.std.proofs.Common.{◌≡◌, ◌≤◌, length}
use Rattle.trials.proofs.renewing.renew_at.Given as goal

abbrev pub invariant-loop-again : goal.invariant-loop-again
invariant-loop-again g l = record {
  slots : length l.wheel.deadlines ≡ l.slots;
  last : l.wheel.last ≤ l.now;
}
