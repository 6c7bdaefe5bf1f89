use Rattle.std.proofs.Common.{◌≡◌, ◌+◌, ◌/◌, ◌%◌, ◌<◌, ◌≤◌, length, get_or, sym, ap, ◌∙◌, refl, arith}
use Rattle.std.specs.Prelude.{None, vec_capacity}
use Rattle.booth_chain.specs.Pool.{items_at}
use Rattle.booth_chain.specs.declared.slot.Slot.{Slot}
use Rattle.booth_chain.specs.Slots.{deadlines_of}
use Rattle.booth_chain.proofs.SearchLemmas.{deadline_read}
use Rattle.booth_chain.proofs.CollectLemmas.{bucket_count, bucket_whole, gathered_at, gathered_known, gathered_on, gathered_room}
use Rattle.booth_chain.proofs.wheel.Wheel.collect_bucket.Goals as goal

pub at-slot-requires : goal.at-slot-requires
at-slot-requires g c =
    let list = (c.self.inside.swept / 128 + c.args.step) % 512 in
    let exists : list < length c.self.inside.pool.lists = omega (arith, c.self.invariant.bucketed.lists) in
    gathered_at c.self.inside.pool list _ _ _ _ _ _ _ exists c.loop-at.invariant.walked c.in-Some.is

pub index-requires : goal.index-requires
index-requires g c =
    let list = (c.self.inside.swept / 128 + c.args.step) % 512 in
    let exists : list < length c.self.inside.pool.lists = omega (arith, c.self.invariant.bucketed.lists) in
    let known : c.at-slot.result.now < length c.self.inside.slots.items =
    gathered_known c.self.inside.pool list _ _ _ _ _ _ _ _ _ exists c.loop-at.invariant.walked c.in-Some.is c.at-slot.ensures (c.self.invariant.bucketed.known list) in
    omega (arith, known, c.self.inside.slots.ok.0)

pub push_if_due-requires : goal.push_if_due-requires
push_if_due-requires g c =
    let list = (c.self.inside.swept / 128 + c.args.step) % 512 in
    let exists : list < length c.self.inside.pool.lists = omega (arith, c.self.invariant.bucketed.lists) in
    let long = bucket_count _ _ _ _ c.args.step list _ c.self.invariant c.self.view_is refl in
    let fits : length c.args.due.now.items + length (items_at c.self.inside.pool list) ≤ vec_capacity c.args.due.now = omega (arith, c.requires.room, long) in
    let short = gathered_room c.self.inside.pool list _ _ _ _ _ _ _ _ exists c.loop-at.invariant.walked c.in-Some.is fits in
    record { room = omega (arith, short, c.loop-at.due.ok.0, c.loop-at.invariant.room) }

pub next-at-requires : goal.next-at-requires
next-at-requires g c =
    let list = (c.self.inside.swept / 128 + c.args.step) % 512 in
    let exists : list < length c.self.inside.pool.lists = omega (arith, c.self.invariant.bucketed.lists) in
    gathered_at c.self.inside.pool list _ _ _ _ _ _ _ exists c.loop-at.invariant.walked c.in-Some.is

pub loop-at-preserved : goal.loop-at-preserved
loop-at-preserved g c =
    let list = (c.self.inside.swept / 128 + c.args.step) % 512 in
    let exists : list < length c.self.inside.pool.lists = omega (arith, c.self.invariant.bucketed.lists) in
    let slots = c.self.inside.slots.items in
    let known : c.at-slot.result.now < length slots =
    gathered_known c.self.inside.pool list _ _ _ _ _ _ _ _ _ exists c.loop-at.invariant.walked c.in-Some.is c.at-slot.ensures (c.self.invariant.bucketed.known list) in
    let read : get_or (deadlines_of slots) c.at-slot.result.now None ≡ c.index.result.now.deadline =
    deadline_read slots c.at-slot.result.now c.index.result.now known ∙ ap (λ (s : Slot). s.deadline) (sym c.index.ensures) in
    record {
      walked = gathered_on c.self.inside.pool list _ _ _ _ _ _ _ _ _ _ _ _ exists c.loop-at.invariant.walked c.in-Some.is c.at-slot.ensures read c.push_if_due.ensures.added c.next-at.ensures.found
          (omega (arith, c.next-at.ensures.counted, c.loop-at.invariant.grown));
      grown = omega (arith, c.next-at.ensures.counted, c.loop-at.invariant.grown);
      room = c.push_if_due.ensures.room ∙ c.loop-at.invariant.room;
    }

pub returns-clause-found : goal.returns-clause-found
returns-clause-found g c =
    (bucket_whole _ _ _ _ c.args.step _ _ _ _ _ _ _ c.self.invariant c.self.view_is refl c.loop-at.invariant.walked c.in_default.is).found
