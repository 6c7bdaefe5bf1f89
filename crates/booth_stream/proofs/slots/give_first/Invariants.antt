use Rattle.std.specs.Prelude.{◌≡◌}
use Rattle.std.specs.List.{AllWithin}
use Rattle.booth_stream.specs.Slot.{IsDry}
use Rattle.booth_stream.specs.Slots.{links_in}
use Rattle.booth_stream.proofs.slots.give_first.Given as goal

abbrev pub invariant-loop-place : goal.invariant-loop-place
invariant-loop-place l = record {
  same : links_in l.slots ≡ links_in l.fn.slots;
  dry : AllWithin IsDry l.slots 0 l.place;
}
