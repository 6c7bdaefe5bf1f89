use Rattle.std.proofs.Common.{◌≡◌, ℕ, ◌<◌, length, map, sym, ap, ◌∙◌, arith}
use Rattle.std.specs.Prelude.{Option, None, slice_index_or, slice_set}
use Rattle.std.proofs.lemmas.Grind.{common_steps}
use Rattle.std.proofs.lemmas.List.{ext_get_or, length-map}
use Rattle.booth_node.specs.Reaction.{deadline_of}
use Rattle.booth_chain.specs.Wheel.{Timer}
use Rattle.booth_node.proofs.TimerLemmas.{next_timed}
use Rattle.booth_node.proofs.opening.start_wheel.Goals as goal

pub returns-clause-timed : goal.returns-clause-timed
returns-clause-timed c =
    ext_get_or None c.loop-place.wheel.deadlines (map deadline_of c.args.tickets.now)
    (c.loop-place.invariant.slots ∙ sym (length-map c.args.tickets.now deadline_of))
    (λ i below. c.loop-place.invariant.timed i
    (let slots = c.loop-place.invariant.slots in let over = c.loop-place-test.false in omega
    (arith, below, slots, over)))

pub loop-place-preserved : goal.loop-place-preserved
loop-place-preserved c = record {
  timed = λ slot below.
      let slots = c.loop-place.invariant.slots in
      let inside : c.loop-place.place < length c.args.tickets.now = let test = c.loop-place-test.true in omega (arith, test) in
      ap (λ (t : Timer). slice_index_or t.deadlines slot None) c.set_deadline.ensures
      ∙ ap (λ (d : Option ℕ). slice_index_or (slice_set c.loop-place.wheel.deadlines c.loop-place.place d) slot None) c.deadline.ensures
      ∙ next_timed c.loop-place.wheel.deadlines c.args.tickets.now c.loop-place.place c.index-tickets-place.result
      c.index-tickets-place.is inside (omega (arith, inside, slots)) c.loop-place.invariant.timed slot below;
  slots = grind (arith, common_steps);
  last = grind (arith, common_steps);
}
