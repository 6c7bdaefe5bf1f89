use Rattle.std.specs.Prelude.{take, set, Option}
use Rattle.std.specs.List.{AllWithin, flat_map}
use Rattle.std.proofs.Common.{◌≡◌, ◌<◌, ◌+◌, ◌++◌, ℕ, List, ◌∙◌, ap, length, arith, sym, subst, get_or}
use Rattle.std.proofs.lemmas.List.{length-set, length-map}
use Rattle.std.proofs.lemmas.List.Elements.{AllWithin-more_set}
use Rattle.booth_stream.specs.declared.link_call.LinkCall.{LinkCall}
use Rattle.booth_stream.specs.Calls.{CallsGrewBy}
use Rattle.booth_stream.specs.Places.{OpenLink, closing, unless_broken}
use Rattle.booth_stream.specs.Slot.{link_in, IsFed, IsAtRest, PlainSlot}
use Rattle.booth_stream.specs.Slots.{links_in}
use Rattle.booth_stream.proofs.CallLemmas.{calls_joined}
use Rattle.booth_stream.proofs.SlotsLemmas.{over_more, still_there, flat_more, within_later}
use Rattle.booth_stream.proofs.slots.close_broken.Goals as goal

pub loop-place-preserved : goal.loop-place-preserved
loop-place-preserved g c =
    let first = c.args.slots.now in
    let slots = c.loop-place.slots in
    let i = c.loop-place.place in
    let old = get_or slots i c.index-slots-place.result in
    let is = ap (λ (d : PlainSlot). get_or slots i d) c.index-slots-place.is in
    let new = c.close_if_broken.new.slot in
    let inv = c.loop-place.invariant in
    let within : i < length slots = let long = c.loop-place.auto.slots in let test = c.loop-place-test.true in omega (arith, long, test) in
    let mapped = length-map first link_in in
    let within_first : i < length (links_in first) = let long = inv.long in omega (arith, within, long, mapped) in
    let there = still_there unless_broken first slots i old inv.long within inv.links is in
    let before = flat_map closing (take i (links_in first)) in
    let calls : flat_map closing (take (i + 1) (links_in first)) ≡ before ++ closing (link_in old) =
    flat_more closing (links_in first) i (link_in old) within_first ∙ ap (λ (x : Option OpenLink). before ++ closing x) there in
    record {
      links = over_more unless_broken first slots i old new inv.long within inv.links is c.close_if_broken.ensures.link;
      calls = subst (λ (l : List LinkCall). CallsGrewBy (g.L.Links.past c.args.links.now) (g.L.Links.past c.close_if_broken.new.links) l)
          (sym calls) (calls_joined inv.calls c.close_if_broken.ensures.calls);
      later = let a = inv.later in let b = c.close_if_broken.ensures.later in omega (arith, a, b);
      fed = subst (λ (n : ℕ). AllWithin IsFed (set slots i new) (i + 1) n) (sym (length-set slots i new))
          (within_later IsFed slots i new (length slots) inv.fed);
      rests = AllWithin-more_set slots i new within IsAtRest inv.rests c.close_if_broken.ensures.rests;
      long = length-set slots i new ∙ inv.long;
    }
