use Rattle.std.proofs.Common.{◌<◌, ◌∙◌, length, arith, get_or, ap}
use Rattle.std.proofs.lemmas.List.Elements.{AllWithin-more_set}
use Rattle.booth_stream.specs.Slot.{IsDry, PlainSlot}
use Rattle.booth_stream.proofs.SlotsLemmas.{gives_here, same_links}
use Rattle.booth_stream.proofs.slots.give_first.Goals as goal

pub returns-in-Some : goal.returns-in-Some
returns-in-Some c =
    let slots = c.loop-place.slots in
    let i = c.loop-place.place in
    let old = get_or slots i c.index-slots-place.result in
    let is = ap (λ (d : PlainSlot). get_or slots i d) c.index-slots-place.is in
    let within : c.loop-place.place < length c.loop-place.slots = let long = c.loop-place.auto.slots in let test = c.loop-place-test.true in omega (arith, long, test) in
    gives_here c.args.slots.now c.loop-place.slots c.loop-place.place old c.give.new.self c.in-Some.peer
    c.give.new.into c.loop-place.invariant.same within is c.in-Some.ensures

pub loop-place-preserved : goal.loop-place-preserved
loop-place-preserved c =
    let slots = c.loop-place.slots in
    let i = c.loop-place.place in
    let old = get_or slots i c.index-slots-place.result in
    let is = ap (λ (d : PlainSlot). get_or slots i d) c.index-slots-place.is in
    let within : c.loop-place.place < length c.loop-place.slots = let long = c.loop-place.auto.slots in let test = c.loop-place-test.true in omega (arith, long, test) in
    record {
      same = same_links c.loop-place.slots c.loop-place.place old c.give.new.self is
          c.in_default.ensures.0 ∙ c.loop-place.invariant.same;
      dry = AllWithin-more_set c.loop-place.slots c.loop-place.place c.give.new.self within IsDry c.loop-place.invariant.dry
          c.in_default.ensures.1;
    }
