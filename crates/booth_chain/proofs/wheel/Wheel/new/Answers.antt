use Rattle.std.proofs.Common.{◌+◌, List, sym, subst, arith}
use Rattle.booth_chain.specs.declared.slot.Slot.{Slot}
use Rattle.booth_chain.specs.Slots.{AreUnset}
use Rattle.booth_chain.proofs.MoveLemmas.{filled_first, filled_more}
use Rattle.booth_chain.proofs.wheel.Wheel.new.Goals as goal

pub loop-slot-init : goal.loop-slot-init
loop-slot-init c =
    subst (λ (xs : List Slot). AreUnset c.in_ok-pool.pool xs 0 c.args.slots) (sym c.in_ok-places.ensures.items) (filled_first _ _ c.in_ok-pool.ensures.empty c.in_ok-pool.ensures.spare)

pub loop-slot-preserved : goal.loop-slot-preserved
loop-slot-preserved c =
    subst (λ (xs : List Slot). AreUnset c.push_back.new.self xs (c.loop-slot.slot + 1) c.args.slots) (sym c.in_ok-push.ensures.items)
    (filled_more _ _ c.loop-slot.slot _ c.in-Ok.node _ c.loop-slot.invariant (omega arith) c.in-Ok.ensures.pushed)
