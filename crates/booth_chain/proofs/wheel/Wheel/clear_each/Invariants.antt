use Rattle.std.proofs.Common.{◌≡◌, take}
use Rattle.booth_chain.specs.Draining.{cleared}
use Rattle.booth_chain.proofs.wheel.Wheel.clear_each.Given as goal

abbrev pub invariant-loop-slot : goal.invariant-loop-slot
invariant-loop-slot l = l.self ≡ record { deadlines = cleared (take l.slot-index l.slots) l.fn.self.deadlines; last = l.fn.self.last; swept = l.fn.self.swept }
