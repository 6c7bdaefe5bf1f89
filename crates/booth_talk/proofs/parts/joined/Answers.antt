use Rattle.std.proofs.Common.{◌∙◌, Some, append-nil, false, sym, true, ap}
use Rattle.booth_talk.proofs.PartLemmas.{text_end, text_missing, text_on}
use Rattle.booth_talk.proofs.parts.joined.Goals as goal

pub returns-in_default : goal.returns-in_default
returns-in_default c =
    sym (text_missing c.args.slots.now c.loop-slot.slot-index c.slot-item.result c.loop-slot.text.items c.loop-slot-test.true c.slot-item.is
    c.loop-slot.invariant (sym c.last.ensures ∙ c.in_default.is))

pub returns-then-last : goal.returns-then-last
returns-then-last c =
    sym (text_on c.args.slots.now c.loop-slot.slot-index c.slot-item.result true c.loop-slot.text.items c.extend_from_slice.new.self.items
    c.text.result.now c.loop-slot-test.true c.slot-item.is c.loop-slot.invariant
    (sym c.last.ensures ∙ c.in-Some.is ∙ ap Some c.if-last.true) c.text.ensures c.in_ok-extend_from_slice.ensures.items
    ∙ append-nil c.extend_from_slice.new.self.items)

pub loop-slot-preserved : goal.loop-slot-preserved
loop-slot-preserved c =
    text_on c.args.slots.now c.loop-slot.slot-index c.slot-item.result false c.loop-slot.text.items c.extend_from_slice.new.self.items
    c.text.result.now c.loop-slot-test.true c.slot-item.is c.loop-slot.invariant
    (sym c.last.ensures ∙ c.in-Some.is ∙ ap Some c.if-last.false) c.text.ensures c.in_ok-extend_from_slice.ensures.items

pub returns : goal.returns
returns c = sym (text_end c.args.slots.now c.loop-slot.slot-index c.loop-slot.text.items c.loop-slot-test.false c.loop-slot.invariant)
