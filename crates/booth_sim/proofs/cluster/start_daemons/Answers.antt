use Rattle.booth_sim.proofs.ClusterStarts.{have_more}
use Rattle.booth_sim.proofs.cluster.start_daemons.Goals as goal

pub loop-place-preserved : goal.loop-place-preserved
loop-place-preserved c =
    have_more c.args.config.now c.loop-place.place c.loop-place.daemons.items c.push.new.self.items c.in_ok-new.field-0
    c.loop-place.invariant c.in_ok-new.ensures c.in_ok-push.ensures.items
