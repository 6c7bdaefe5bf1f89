use Rattle.std.proofs.Common.{◌≡◌, ◌<◌, ◌+◌, ℕ, List, ◌∷◌, drop, get_or, refl, sym, subst, ap, ◌∙◌}
use Rattle.std.proofs.lemmas.List.{drop_more}
use Rattle.std.proofs.Math.ListN.{drop_of_length-le}
use Rattle.booth_chain.specs.Wheel.{Timer}
use Rattle.booth_node.proofs.DueLemmas.{Each, Once, DueAt, TimedBut, all_of_each, all_due, all_once, still_due, timed_all, same_length, place_in, place_after, timed_next, slots_next}
use Rattle.booth_node.specs.declared.event.Event.TheVariants.{Due}
use Rattle.booth_node.specs.declared.node_config.NodeConfig.{NodeConfig}
use Rattle.booth_node.specs.Led.{Led}
use Rattle.booth_node.specs.Reaction.{IsDone, acts}
use Rattle.booth_node.specs.State.{state_of_parts}
use Rattle.booth_node.specs.View.{state_with}
use Rattle.booth_node.proofs.LedLemmas.{led_all, led_end, led_taken}
use Rattle.booth_node.proofs.deadlines.expire_each.Goals as goal

pub loop-place-init : goal.loop-place-init
loop-place-init g c = record {
  led = led_end;
  node = refl;
  due = subst (λ (places : List ℕ). Each (DueAt c.args.now c.args.table.now.tickets.items) places)
      (sym c.requires.due)
      (all_due c.args.now c.args.table.now.tickets.items);
  once = subst (λ (places : List ℕ). Once places) (sym c.requires.due)
      (all_once c.args.now c.args.table.now.tickets.items);
  timed = λ slot each. c.requires.others slot (all_of_each _ c.args.due.now each);
  slots = c.requires.slots;
  last = refl;
  tickets = refl;
}

pub deadline-deadline-requires : goal.deadline-deadline-requires
deadline-deadline-requires g c = place_after _ _ _ c.expire.ensures.others

pub set_deadline-requires : goal.set_deadline-requires
set_deadline-requires g c =
    subst (λ (n : ℕ). get_or c.args.due.now c.loop-place.place-index 0 < n) (sym c.loop-place.invariant.slots)
    (place_in _ _ _ c.expire.ensures.others)

pub loop-place-preserved : goal.loop-place-preserved
loop-place-preserved g c =
    let place : ℕ = get_or c.args.due.now c.loop-place.place-index 0 in
    let more : List ℕ = drop (c.loop-place.place-index + 1) c.args.due.now in
    let left : drop c.loop-place.place-index c.args.due.now ≡ place ∷ more =
    drop_more c.args.due.now c.loop-place.place-index 0 c.loop-place-test.true in
    let once : Once (place ∷ more) = subst (λ (places : List ℕ). Once places) left
    c.loop-place.invariant.once in
    record {
      led = led_taken (λ place state. acts c.args.table.now.node c.args.now state place Due) c.args.due.now
          c.loop-place.place-index 0
          (state_of_parts c.args.table.now.tickets.items c.args.table.now.waiters c.args.table.now.attrs c.args.table.now.common c.args.now)
          c.loop-place-test.true c.loop-place.invariant.led
          (subst (λ (n : NodeConfig). Led g.H.Host.past g.H.Host.faults (IsDone n.ring) (acts n c.args.now
          (state_of_parts c.loop-place.table.tickets.items c.loop-place.table.waiters c.loop-place.table.attrs
          c.loop-place.table.common c.args.now) place Due) (state_with c.expire.new.self c.args.now) c.loop-place.host c.expire.new.host)
          c.loop-place.invariant.node c.expire.ensures.led);
      node = c.expire.ensures.node ∙ c.loop-place.invariant.node;
      due = still_due c.args.now place _ _ more c.expire.ensures.others once.0
          (subst (λ (places : List ℕ). Each (DueAt c.args.now c.loop-place.table.tickets.items) places) left
          c.loop-place.invariant.due).1;
      once = once.1;
      timed = timed_next place _ more _ _ _ _ _ c.expire.ensures.others c.loop-place.invariant.slots left
          c.set_deadline.ensures
          c.deadline-deadline.ensures c.loop-place.invariant.timed;
      slots = slots_next place _ more _ _ _ _ _ c.expire.ensures.others c.loop-place.invariant.slots left
          c.set_deadline.ensures;
      last = ap (λ (t : Timer). t.last) c.set_deadline.ensures ∙ c.loop-place.invariant.last;
      tickets = same_length _ _ _ c.expire.ensures.others ∙ c.loop-place.invariant.tickets;
    }

pub returns-clause-led : goal.returns-clause-led
returns-clause-led g c =
    led_all (λ place state. acts c.args.table.now.node c.args.now state place Due) c.args.due.now c.loop-place.place-index
    (state_of_parts c.args.table.now.tickets.items c.args.table.now.waiters c.args.table.now.attrs c.args.table.now.common c.args.now)
    c.loop-place-test.false c.loop-place.invariant.led

pub returns-clause-timed : goal.returns-clause-timed
returns-clause-timed g c =
    timed_all c.loop-place.table.tickets.items c.loop-place.wheel.deadlines c.loop-place.invariant.slots
    (subst (λ (places : List ℕ). TimedBut places c.loop-place.table.tickets.items
    c.loop-place.wheel.deadlines)
    (drop_of_length-le c.args.due.now c.loop-place-test.false) c.loop-place.invariant.timed)
