use Rattle.std.proofs.Common.{length, take, ap, arith}
use Rattle.booth_chain.specs.Wheel.{Timer}
use Rattle.booth_chain.proofs.DrainLemmas.{clear_next, length-cleared}
use Rattle.booth_chain.proofs.wheel.Wheel.clear_each.Goals as goal

pub clear-requires : goal.clear-requires
clear-requires c =
    omega (arith, c.requires c.loop-slot.slot-index 0 c.loop-slot-test.true, ap (λ (t : Timer). length t.deadlines) c.loop-slot.invariant, length-cleared (take c.loop-slot.slot-index c.args.slots.now) c.args.self.now.deadlines)

pub loop-slot-preserved : goal.loop-slot-preserved
loop-slot-preserved c =
    clear_next c.args.self.now _ _ c.args.slots.now c.loop-slot.slot-index c.loop-slot-test.true c.loop-slot.invariant c.clear.ensures
