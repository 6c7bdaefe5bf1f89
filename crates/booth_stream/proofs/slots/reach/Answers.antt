use Rattle.booth_stream.proofs.SlotsLemmas.{found_open, none_open}
use Rattle.booth_stream.proofs.slots.reach.Goals as goal

pub returns-then-is_same : goal.returns-then-is_same
returns-then-is_same c =
    found_open c.args.slots.now c.loop-slot.slot-index c.slot-item.result c.in-Some.caller c.args.peer.now c.loop-slot-test.true
    c.slot-item.is c.in-Some.ensures (c.is_same.ensures.same c.if-is_same.true)

pub returns : goal.returns
returns c =
    none_open c.args.slots.now c.args.peer.now c.loop-slot.slot-index c.loop-slot-test.false c.loop-slot.invariant
