use Rattle.std.proofs.Common.{◌+◌, ◌-◌, ◌≤◌, length}
use Rattle.booth_chain.specs.Pool.{items_at}
use Rattle.booth_chain.specs.Slots.{deadlines_of}
use Rattle.booth_chain.proofs.SearchLemmas.{Walked}
use Rattle.booth_chain.proofs.search.first_in_bucket.Given as goal

abbrev pub invariant-loop-at : goal.invariant-loop-at
invariant-loop-at g l = record {
  walked : Walked (items_at l.pool l.bucket) (deadlines_of l.slots) l.now l.at l.first (l.steps - l.initial.steps);
  grown : l.initial.steps ≤ l.steps;
}

abbrev pub decreases-loop-at : goal.decreases-loop-at
decreases-loop-at g l = length (items_at l.pool l.bucket) + l.initial.steps - l.steps
