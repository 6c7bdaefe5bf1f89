use Rattle.booth_sim.proofs.ClusterTurns.{sees_next}
use Rattle.booth_sim.proofs.turn.count_all.Goals as goal

pub loop-deed-preserved : goal.loop-deed-preserved
loop-deed-preserved c =
    sees_next _ _ _ _ c.deed-item.result _ _ _ _ _ _ _ _ _ c.loop-deed-test.true c.deed-item.is
    c.loop-deed.invariant c.in_ok-count.ensures.seen c.in_ok-count.ensures.all c.in_ok-count.ensures.rises
