use Rattle.std.proofs.Common.{◌∙◌, Some, false, sym, true, ap}
use Rattle.booth_talk.proofs.PartLemmas.{whole_end, whole_missing, whole_on}
use Rattle.booth_talk.proofs.parts.is_whole.Goals as goal

pub returns-in-Some-true : goal.returns-in-Some-true
returns-in-Some-true c =
    sym (whole_on c.args.slots.now c.loop-slot.slot-index c.slot-item.result true c.loop-slot-test.true c.slot-item.is c.loop-slot.invariant
    (sym c.last.ensures ∙ c.in-Some-true.is ∙ ap Some c.in-Some-true.field-0-test))

pub returns-in-None : goal.returns-in-None
returns-in-None c =
    sym (whole_missing c.args.slots.now c.loop-slot.slot-index c.slot-item.result c.loop-slot-test.true c.slot-item.is c.loop-slot.invariant
    (sym c.last.ensures ∙ c.in-None.is))

pub loop-slot-preserved : goal.loop-slot-preserved
loop-slot-preserved c =
    whole_on c.args.slots.now c.loop-slot.slot-index c.slot-item.result false c.loop-slot-test.true c.slot-item.is c.loop-slot.invariant
    (sym c.last.ensures ∙ c.in-Some-false.is ∙ ap Some c.in-Some-false.field-0-test)

pub returns : goal.returns
returns c = sym (whole_end c.args.slots.now c.loop-slot.slot-index c.loop-slot-test.false c.loop-slot.invariant)
