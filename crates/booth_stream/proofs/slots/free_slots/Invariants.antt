use Rattle.std.specs.Prelude.{◌≡◌, None, replicate}
use Rattle.booth_stream.specs.Slots.{links_in}
use Rattle.booth_stream.proofs.slots.free_slots.Given as goal

abbrev pub invariant-loop-place : goal.invariant-loop-place
invariant-loop-place l = links_in l.slots.items ≡ replicate l.place None
