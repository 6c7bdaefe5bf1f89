use Rattle.std.proofs.Common.{◌≡◌}
use Rattle.booth_sim.specs.Clusters.{Stands}
use Rattle.booth_sim.specs.Drawing.{generator_before}
use Rattle.booth_sim.proofs.simulation.simulate.Given as goal

abbrev pub invariant-loop-event : goal.invariant-loop-event
invariant-loop-event l = record {
  stands : Stands l.fn.config l.events l.number l.event l.cluster;
  drawn : l.generator ≡ generator_before l.number l.event;
}
