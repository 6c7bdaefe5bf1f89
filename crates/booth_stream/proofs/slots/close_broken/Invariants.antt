use Rattle.std.specs.Prelude.{◌≡◌, ◌≤◌, ◌++◌, map, take, drop, length}
use Rattle.std.specs.List.{AllWithin, flat_map}
use Rattle.booth_stream.specs.Calls.{CallsGrewBy}
use Rattle.booth_stream.specs.Places.{closing, unless_broken}
use Rattle.booth_stream.specs.Slot.{IsFed, IsAtRest}
use Rattle.booth_stream.specs.Slots.{links_in}
use Rattle.booth_stream.proofs.slots.close_broken.Given as goal

abbrev pub invariant-loop-place : goal.invariant-loop-place
invariant-loop-place g l = record {
  links : links_in l.slots ≡ map unless_broken (take l.place (links_in l.fn.slots)) ++ drop l.place (links_in l.fn.slots);
  calls : CallsGrewBy (g.L.Links.past l.fn.links) (g.L.Links.past l.links)
      (flat_map closing (take l.place (links_in l.fn.slots)));
  later : g.L.Links.faults l.fn.links ≤ g.L.Links.faults l.links;
  fed : AllWithin IsFed l.slots l.place (length l.slots);
  rests : AllWithin IsAtRest l.slots 0 l.place;
  long : length l.slots ≡ length l.fn.slots;
}
