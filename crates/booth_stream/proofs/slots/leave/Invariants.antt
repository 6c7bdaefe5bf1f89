use Rattle.std.specs.Prelude.{◌≡◌, ◌++◌, map, take, drop, length}
use Rattle.std.specs.List.{list_any}
use Rattle.booth_stream.specs.Places.{has_number, unless_number}
use Rattle.booth_stream.specs.Slots.{links_in}
use Rattle.booth_stream.proofs.slots.leave.Given as goal

abbrev pub invariant-loop-place : goal.invariant-loop-place
invariant-loop-place l = record {
  links : links_in l.slots ≡ map (unless_number l.number) (take l.place (links_in l.fn.slots)) ++ drop l.place (links_in l.fn.slots);
  found : l.found ≡ list_any (has_number l.number) (take l.place (links_in l.fn.slots));
  long : length l.slots ≡ length l.fn.slots;
}
