use Rattle.std.proofs.Common.{sym, subst}
use Rattle.booth_sim.specs.declared.happening.Happening.{Happening}
use Rattle.booth_sim.specs.Clusters.{Happened, says}
use Rattle.booth_sim.proofs.cluster.Cluster.happen.Goals as goal

pub returns-in_ok-restart-in-Restart : goal.returns-in_ok-restart-in-Restart
returns-in_ok-restart-in-Restart c =
    subst (λ (said : Happening). Happened c.args.keeps_fail (says said) c.args.self.now c.restart.new.self) (sym c.in-Restart.is)
    (c.in_ok-restart-in-Restart.ensures c.args.keeps_fail)
