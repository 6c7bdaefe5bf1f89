use Rattle.std.specs.Prelude.{◌≡◌, ◌++◌, map, take, drop, length}
use Rattle.std.specs.List.{AllWithin}
use Rattle.booth_stream.specs.Places.{with_more}
use Rattle.booth_stream.specs.Slot.{IsAtRest}
use Rattle.booth_stream.specs.Slots.{links_in}
use Rattle.booth_stream.proofs.slots.add.Given as goal

abbrev pub invariant-loop-place : goal.invariant-loop-place
invariant-loop-place l = record {
  links : links_in l.slots ≡ map (with_more l.number l.piece) (take l.place (links_in l.fn.slots)) ++ drop l.place (links_in l.fn.slots);
  rests : AllWithin IsAtRest l.slots l.place (length l.slots);
  long : length l.slots ≡ length l.fn.slots;
}
