use Rattle.std.proofs.Common.{ap, length, arith}
use Rattle.booth_chain.proofs.MoveLemmas.{slot_stands, bucket_below, same_lists, put}
use Rattle.std.proofs.lemmas.List.{length-map}
use Rattle.booth_chain.specs.Wheel.{Timer}
use Rattle.booth_chain.specs.declared.slot.Slot.{Slot}
use Rattle.booth_chain.proofs.wheel.Wheel.put.Goals as goal

pub remove-slot-requires : goal.remove-slot-requires
remove-slot-requires c = (slot_stands _ _ _ _ c.args.slot c.index-old.result.now _ c.self.invariant c.self.view_is c.requires c.index-old.ensures).stands

pub push_back-requires : goal.push_back-requires
push_back-requires c =
    let stands = (slot_stands _ _ _ _ c.args.slot c.index-old.result.now _ c.self.invariant c.self.view_is c.requires c.index-old.ensures).stands in
    omega (arith, c.bucket_of-bucket.ensures, c.self.invariant.bucketed.lists, bucket_below c.self.inside.swept c.args.deadline, same_lists _ _ _ _ stands c.remove-slot.ensures.removes)

pub index_mut-requires : goal.index_mut-requires
index_mut-requires c =
    let s = slot_stands _ _ _ _ c.args.slot c.index-old.result.now _ c.self.invariant c.self.view_is c.requires c.index-old.ensures in
    omega (arith, c.remove-slot.ensures.removes.item_is s.stands, s.item_is, ap (λ (t : Timer). length t.deadlines) c.self.view_is, length-map c.self.inside.slots.items (λ (s : Slot). s.deadline))

pub invariant_of-self : goal.invariant_of-self
invariant_of-self c =
    (put _ _ _ _ c.args.slot c.index-old.result.now _ c.args.deadline _ _ _ c.in-Ok.node _ c.self.invariant c.self.view_is c.requires c.index-old.ensures c.remove-slot.ensures.removes c.bucket_of-bucket.ensures c.in-Ok.ensures.pushed).kept

pub returns : goal.returns
returns c =
    (put _ _ _ _ c.args.slot c.index-old.result.now _ c.args.deadline _ _ _ c.in-Ok.node _ c.self.invariant c.self.view_is c.requires c.index-old.ensures c.remove-slot.ensures.removes c.bucket_of-bucket.ensures c.in-Ok.ensures.pushed).timer
