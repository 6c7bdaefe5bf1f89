use Rattle.std.proofs.Common.{◌≡◌, ◌+◌, ◌≤◌, [], length}
use Rattle.std.specs.Prelude.{vec_capacity}
use Rattle.booth_chain.specs.Draining.{Collects}
use Rattle.booth_chain.proofs.CollectLemmas.{IsNear, near_count}
use Rattle.booth_chain.proofs.wheel.Wheel.collect.Given as goal

abbrev pub invariant-loop-step : goal.invariant-loop-step
invariant-loop-step g l = record {
  found : Collects (IsNear l.self l.step) l.self.deadlines l.now [] l.due.items;
  few : length l.due.items ≤ near_count l.self l.step;
  counted : l.steps ≡ l.initial.steps + l.step + near_count l.self l.step;
  within : l.step ≤ l.step-end;
  room : vec_capacity l.due ≡ vec_capacity l.fn.due;
}
