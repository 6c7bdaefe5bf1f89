use Rattle.std.proofs.Common.{arith}
use Rattle.booth_chain.proofs.SearchLemmas.{reached, item_known, walked_on, deadline_read}
use Rattle.booth_chain.proofs.search.first_in_bucket.Goals as goal

pub at-slot-requires : goal.at-slot-requires
at-slot-requires g c = reached _ _ _ _ _ _ _ _ c.requires.exists c.loop-at.invariant.walked c.in-Some.is

pub bounds-slots-slot : goal.bounds-slots-slot
bounds-slots-slot g c = item_known _ _ _ _ _ _ _ _ _ _ c.requires.exists c.loop-at.invariant.walked c.in-Some.is c.at-slot.ensures c.requires.known

pub bounds-slots-slot-in-Some : goal.bounds-slots-slot-in-Some
bounds-slots-slot-in-Some g c = item_known _ _ _ _ _ _ _ _ _ _ c.requires.exists c.loop-at.invariant.walked c.in-Some.is c.at-slot.ensures c.requires.known

pub next-at-requires : goal.next-at-requires
next-at-requires g c = reached _ _ _ _ _ _ _ _ c.requires.exists c.loop-at.invariant.walked c.in-Some.is

pub loop-at-preserved : goal.loop-at-preserved
loop-at-preserved g c =
    let lt = item_known _ _ _ _ _ _ _ _ _ _ c.requires.exists c.loop-at.invariant.walked c.in-Some.is c.at-slot.ensures c.requires.known in
    let grown = c.loop-at.invariant.grown in
    record {
      walked = walked_on _ _ _ _ _ _ _ _ _ _ _ _ _ _ c.requires.exists c.loop-at.invariant.walked c.in-Some.is c.at-slot.ensures (deadline_read _ _ c.index-slots-slot.result lt) c.found_if_due-found.ensures c.earlier-first.ensures c.next-at.ensures.found (omega (arith, c.next-at.ensures.counted));
      grown = omega (arith, c.next-at.ensures.counted);
    }
