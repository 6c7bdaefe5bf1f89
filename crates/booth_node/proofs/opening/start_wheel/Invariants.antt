use Rattle.std.specs.Prelude.{◌≡◌, ◌<◌, ℕ, None, length, map, slice_index_or}
use Rattle.booth_node.specs.Reaction.{deadline_of}
use Rattle.booth_node.proofs.opening.start_wheel.Given as goal

abbrev pub invariant-loop-place : goal.invariant-loop-place
invariant-loop-place l = record {
  timed : (slot : ℕ) → slot < l.place
      → slice_index_or l.wheel.deadlines slot None ≡ slice_index_or (map deadline_of l.tickets) slot None;
  slots : length l.wheel.deadlines ≡ length l.tickets;
  last : l.wheel.last ≡ 0;
}
