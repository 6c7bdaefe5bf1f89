use Rattle.std.proofs.Common.{◌≡◌, ℕ, subst, arith}
use Rattle.booth_sim.specs.Clusters.{Stands}
use Rattle.booth_sim.proofs.ClusterRuns.{drawn_next, stands_again, summed}
use Rattle.booth_sim.proofs.simulation.simulate.Goals as goal

pub loop-event-preserved : goal.loop-event-preserved
loop-event-preserved c = record {
  stands = stands_again c.args.config c.args.events c.args.number c.loop-event.event c.loop-event.cluster c.event.new.self
      c.loop-event.invariant.stands c.in_ok-event.ensures;
  drawn = (drawn_next c.args.number c.loop-event.event c.loop-event.generator c.next-draw.new.generator c.next-draw.result
      c.next-draw.ensures c.loop-event.invariant.drawn).1;
}

pub returns-clause-counts : goal.returns-clause-counts
returns-clause-counts c =
    let all : c.loop-event.event ≡ c.args.events = omega arith in
    summed c.simulations_are_worlds.ensures c.args.config c.args.events c.args.number c.loop-event.cluster c.sound.ensures c.requires
    (subst (λ (n : ℕ). Stands c.args.config c.args.events c.args.number n c.loop-event.cluster) all c.loop-event.invariant.stands)
