use Rattle.std.proofs.Common.{ℕ, sym, ap, ◌∙◌}
use Rattle.booth_sim.specs.Drawing.{draw_of}
use Rattle.booth_sim.proofs.ClusterRuns.{drawn_next, stands_own}
use Rattle.booth_sim_tests.proofs.tests.by_hand.check.Goals as goal

pub put_event-requires-clause-stands : goal.put_event-requires-clause-stands
put_event-requires-clause-stands g c = c.loop-event.invariant.stands

pub put_event-requires-clause-drawn : goal.put_event-requires-clause-drawn
put_event-requires-clause-drawn g c =
    (drawn_next c.args.summary.number c.loop-event.event c.loop-event.generator c.next-draw.new.generator c.next-draw.result
    c.next-draw.ensures c.loop-event.invariant.drawn).0
    ∙ ap (λ (n : ℕ). draw_of n c.loop-event.event) (sym c.loop-event.invariant.number)

pub loop-event-preserved : goal.loop-event-preserved
loop-event-preserved g c = record {
  stands = stands_own _ _ _ _ _ c.put_event.ensures;
  number = c.put_event.ensures.drawn ∙ c.loop-event.invariant.number;
  drawn = (drawn_next c.args.summary.number c.loop-event.event c.loop-event.generator c.next-draw.new.generator c.next-draw.result
      c.next-draw.ensures c.loop-event.invariant.drawn).1;
}
