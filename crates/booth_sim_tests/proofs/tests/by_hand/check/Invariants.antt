use Rattle.std.proofs.Common.{◌≡◌}
use Rattle.booth_sim.specs.Clusters.{Stands}
use Rattle.booth_sim.specs.Drawing.{generator_before}
use Rattle.booth_sim_tests.proofs.tests.by_hand.check.Given as goal

abbrev pub invariant-loop-event : goal.invariant-loop-event
invariant-loop-event g l = record {
  stands : Stands l.cluster.config l.cluster.summary.events l.cluster.summary.number l.event l.cluster;
  number : l.cluster.summary.number ≡ l.summary.number;
  drawn : l.generator ≡ generator_before l.summary.number l.event;
}
