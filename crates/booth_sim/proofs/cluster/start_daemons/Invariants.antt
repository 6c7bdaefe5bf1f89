use Rattle.booth_sim.specs.Clusters.{HaveStarted}
use Rattle.booth_sim.proofs.cluster.start_daemons.Given as goal

abbrev pub invariant-loop-place : goal.invariant-loop-place
invariant-loop-place l = HaveStarted l.config l.place l.daemons.items
