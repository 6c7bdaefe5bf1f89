use Rattle.booth_sim.proofs.ClusterTurns.{turn_made}
use Rattle.booth_sim.proofs.turn.turn.Goals as goal

pub returns : goal.returns
returns c =
    turn_made c.args.config.now c.args.place c.args.coming.now c.args.daemon.now c.take_turn.new.node _ c.deref_mut.result.now
    c.count_all.new.kept
    c.args.frames.now c.count_all.new.frames c.args.summary.now c.count_arrival.new.summary c.count_all.new.summary c.in_ok-deeds.deeds.now
    c.in_ok-deeds.ensures.node c.in_ok-deeds.ensures.took c.in_ok-deeds.ensures.few c.count_arrival.ensures c.deref_mut.ensures.value
    c.in_ok-count_all.ensures
