use Rattle.booth_chain.specs.Slots.{AreUnset}
use Rattle.booth_chain.proofs.wheel.Wheel.new.Given as goal

abbrev pub invariant-loop-slot : goal.invariant-loop-slot
invariant-loop-slot l = AreUnset l.pool l.places.items l.slot l.slots
