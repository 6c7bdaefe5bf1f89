use Rattle.std.specs.List.{AllWithin}
use Rattle.std.proofs.Common.{ℕ, ◌+◌, ◌<◌, ◌∙◌, length, set, subst, sym, arith, get_or, ap}
use Rattle.std.proofs.lemmas.List.{length-set}
use Rattle.booth_stream.specs.Places.{with_more}
use Rattle.booth_stream.specs.Slot.{IsAtRest, PlainSlot}
use Rattle.booth_stream.proofs.SlotsLemmas.{over_more, within_later}
use Rattle.booth_stream.proofs.slots.add.Goals as goal

pub loop-place-preserved : goal.loop-place-preserved
loop-place-preserved c =
    let slots = c.loop-place.slots in
    let i = c.loop-place.place in
    let old = get_or slots i c.index-slots-place.result in
    let is = ap (λ (d : PlainSlot). get_or slots i d) c.index-slots-place.is in
    let new = c.add.new.self in
    let within : i < length slots = let long = c.loop-place.auto.slots in let test = c.loop-place-test.true in omega (arith, long, test) in
    record {
      links = over_more (with_more c.args.number c.args.piece.now) c.args.slots.now slots i old new
          c.loop-place.invariant.long within c.loop-place.invariant.links is c.add.ensures;
      rests = subst (λ (n : ℕ). AllWithin IsAtRest (set slots i new) (i + 1) n) (sym (length-set slots i new))
          (within_later IsAtRest slots i new (length slots) c.loop-place.invariant.rests);
      long = length-set slots i new ∙ c.loop-place.invariant.long;
    }
