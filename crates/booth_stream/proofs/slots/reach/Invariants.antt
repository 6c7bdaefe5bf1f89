use Rattle.std.specs.List.{AllWithin}
use Rattle.booth_stream.specs.Slot.{link_in}
use Rattle.booth_stream.specs.Slots.{IsNotOf}
use Rattle.booth_stream.proofs.slots.reach.Given as goal

abbrev pub invariant-loop-slot : goal.invariant-loop-slot
invariant-loop-slot l = AllWithin (λ slot. IsNotOf l.peer (link_in slot)) l.slots 0 l.slot-index
