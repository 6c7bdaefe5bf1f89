use Rattle.std.proofs.Common.{◌≡◌, ◌+◌, ◌-◌, ◌≤◌, length}
use Rattle.std.specs.Prelude.{vec_capacity}
use Rattle.booth_chain.specs.Pool.{items_at}
use Rattle.booth_chain.specs.Slots.{deadlines_of}
use Rattle.booth_chain.proofs.CollectLemmas.{Gathered}
use Rattle.booth_chain.proofs.wheel.Wheel.collect_bucket.Given as goal

abbrev pub invariant-loop-at : goal.invariant-loop-at
invariant-loop-at g l = record {
  walked : Gathered (items_at l.self-inside.pool l.bucket) (deadlines_of l.self-inside.slots.items) l.now l.at l.fn.due.items l.due.items (l.steps - l.initial.steps);
  grown : l.initial.steps ≤ l.steps;
  room : vec_capacity l.due ≡ vec_capacity l.fn.due;
}

abbrev pub decreases-loop-at : goal.decreases-loop-at
decreases-loop-at g l = length (items_at l.self-inside.pool l.bucket) + l.initial.steps - l.steps
