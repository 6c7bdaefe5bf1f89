use Rattle.std.proofs.Common.{◌≡◌, ◌+◌}
use Rattle.booth_chain.specs.Slots.{deadlines_of}
use Rattle.booth_chain.specs.Search.{IsFirstOf, SlotNear, looks}
use Rattle.booth_chain.proofs.search.first_in_buckets.Given as goal

abbrev pub invariant-loop-step : goal.invariant-loop-step
invariant-loop-step g l = record {
  first : IsFirstOf (SlotNear l.pool l.from l.step) (deadlines_of l.slots) l.now l.first;
  counted : l.steps ≡ l.initial.steps + looks l.pool l.from l.step;
}
