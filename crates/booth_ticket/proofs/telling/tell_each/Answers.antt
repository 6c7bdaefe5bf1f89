use Rattle.std.proofs.Common.{◌≡◌, ◌≤◌, ◌<◌, ◌∙◌, ℕ, ap, arith, length, refl, set, subst, sym}
use Rattle.booth_ticket.specs.declared.waiters.Waiter.{Waiter}
use Rattle.booth_ticket.specs.Acts.{Did}
use Rattle.booth_ticket.specs.Waiting.{tell_each, tell_one}
use Rattle.booth_ticket.specs.Waiting.{waiting_at}
use Rattle.booth_ticket.proofs.TellLemmas.{exists_set, more_room, looked_none, looked_all, never_none, took_out, looked_next, waiting_set}
use Rattle.booth_ticket.proofs.DidLemmas.{did_all, did_as, did_end, did_one_more, did_then}
use Rattle.booth_ticket.proofs.telling.tell_each.Goals as goal

pub loop-place-init : goal.loop-place-init
loop-place-init g c = record {
  looked = looked_none c.args.waiters.now c.args.list c.args.told;
  told = did_end;
}

pub pop-requires : goal.pop-requires
pop-requires g c =
    exists_set c.args.waiters.now c.args.list _ c.loop-place.waiters c.requires.exists
    c.loop-place.invariant.looked

below : (n i end : ℕ) → i < end → end ≡ n → i < n
below n i end less is = omega (arith, less, is)

pub keep_waiting-requires : goal.keep_waiting-requires
keep_waiting-requires g c =
    let less = below _ c.loop-place._place _ c.loop-place-test.true c.count-place-end.ensures in
    let took = took_out c.args.waiters.now c.args.list c.args.told c.loop-place._place c.pop.result
    c.loop-place.waiters c.pop.new.self c.in-Some.waiter c.requires.exists less
    c.loop-place.invariant.looked c.pop.ensures.first c.pop.ensures.others c.in-Some.is in
    record {
      exists = exists_set c.args.waiters.now c.args.list _ c.pop.new.self c.requires.exists took.is;
      room = c.in-Some.ensures.room;
    }

pub loop-place-preserved : goal.loop-place-preserved
loop-place-preserved g c =
    let less = below _ c.loop-place._place _ c.loop-place-test.true c.count-place-end.ensures in
    let took = took_out c.args.waiters.now c.args.list c.args.told c.loop-place._place c.pop.result
    c.loop-place.waiters c.pop.new.self c.in-Some.waiter c.requires.exists less
    c.loop-place.invariant.looked c.pop.ensures.first c.pop.ensures.others c.in-Some.is in
    record {
      looked = looked_next c.args.waiters.now c.args.list c.args.told c.loop-place._place c.in-Some.waiter
          c.pop.new.self c.keep_waiting.new.waiters c.requires.exists less took.is took.w_is
          c.keep_waiting.ensures;
      told = did_one_more (tell_one c.args.setup.now c.args.part.now c.args.told) (waiting_at c.args.waiters.now c.args.list)
          c.loop-place._place c.in-Some.waiter less c.loop-place.invariant.told
          (subst (λ (w : Waiter). Did g.W.Hands.did (tell_one c.args.setup.now c.args.part.now c.args.told w) tt
          c.loop-place.hands c.tell_one.new.hands) took.w_is c.tell_one.ensures.did);
    }

pub returns-in_default-clause-did : goal.returns-in_default-clause-did
returns-in_default-clause-did g c =
    absurd (never_none c.args.waiters.now c.args.list c.args.told c.loop-place._place c.pop.result
    c.loop-place.waiters c.requires.exists
    (below _ c.loop-place._place _ c.loop-place-test.true c.count-place-end.ensures)
    c.loop-place.invariant.looked c.pop.ensures.first c.in_default.is)

pub returns-clause-did : goal.returns-clause-did
unfolding tell_each
returns-clause-did g c =
    let past : length (waiting_at c.args.waiters.now c.args.list) ≤ c.loop-place._place =
    omega (arith, c.loop-place-test.false, c.count-place-end.ensures) in
    let stay = looked_all c.args.waiters.now c.args.list c.args.told c.loop-place._place c.loop-place.waiters past
    c.loop-place.invariant.looked in
    did_as refl
    (sym (waiting_set c.args.waiters.now c.args.list _ c.loop-place.waiters c.requires.exists stay))
    (did_then _
    (did_all (tell_one c.args.setup.now c.args.part.now c.args.told) (waiting_at c.args.waiters.now c.args.list)
    c.loop-place._place past c.loop-place.invariant.told)
    did_end)

pub returns-clause-others : goal.returns-clause-others
returns-clause-others g c =
    let past : length (waiting_at c.args.waiters.now c.args.list) ≤ c.loop-place._place =
    omega (arith, c.loop-place-test.false, c.count-place-end.ensures) in
    let stay = looked_all c.args.waiters.now c.args.list c.args.told c.loop-place._place c.loop-place.waiters past
    c.loop-place.invariant.looked in
    stay
    ∙ ap (set c.args.waiters.now c.args.list)
    (sym (waiting_set c.args.waiters.now c.args.list _ c.loop-place.waiters c.requires.exists stay))

pub returns-clause-room : goal.returns-clause-room
returns-clause-room g c =
    more_room c.args.waiters.now c.loop-place.waiters c.args.list c.args.told c.requires.exists
    (looked_all c.args.waiters.now c.args.list c.args.told c.loop-place._place c.loop-place.waiters
    (omega (arith, c.loop-place-test.false, c.count-place-end.ensures)) c.loop-place.invariant.looked)
