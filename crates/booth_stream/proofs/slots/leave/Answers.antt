use Rattle.std.proofs.Common.{◌<◌, ◌∙◌, length, arith, sym, get_or, ap}
use Rattle.std.proofs.lemmas.List.{length-set, length-map}
use Rattle.booth_stream.specs.Places.{has_number, unless_number}
use Rattle.booth_stream.specs.Slot.{link_in, PlainSlot}
use Rattle.booth_stream.specs.Slots.{links_in}
use Rattle.booth_stream.proofs.SlotsLemmas.{over_more, still_there, found_here, not_found_here}
use Rattle.booth_stream.proofs.slots.leave.Goals.{then-leave, else-leave}
use Rattle.booth_stream.proofs.slots.leave.Goals as goal

pub loop-place-preserved : goal.loop-place-preserved
loop-place-preserved c =
    let first = c.args.slots.now in
    let slots = c.loop-place.slots in
    let i = c.loop-place.place in
    let old = get_or slots i c.index-slots-place.result in
    let is = ap (λ (d : PlainSlot). get_or slots i d) c.index-slots-place.is in
    let new = c.leave.new.self in
    let long = c.loop-place.invariant.long in
    let within : i < length slots = let long = c.loop-place.auto.slots in let test = c.loop-place-test.true in omega (arith, long, test) in
    let mapped = length-map first link_in in
    let within_first : i < length (links_in first) = omega (arith, within, long, mapped) in
    let there = still_there (unless_number c.args.number) first slots i old long within c.loop-place.invariant.links is in
    record {
      links = over_more (unless_number c.args.number) first slots i old new long within c.loop-place.invariant.links
          is c.leave.ensures.link;
      found = elim c.if-leave.branch [
        | then-leave w ↦
            w.found-is ∙ found_here (has_number c.args.number) (links_in first) i (link_in old) within_first there
            (sym c.leave.ensures.here ∙ w.if-leave.true)
        | else-leave w ↦
            w.found-is ∙ c.loop-place.invariant.found
            ∙ not_found_here (has_number c.args.number) (links_in first) i (link_in old) within_first there
            (sym c.leave.ensures.here ∙ w.if-leave.false)
      ];
      long = length-set slots i new ∙ long;
    }
