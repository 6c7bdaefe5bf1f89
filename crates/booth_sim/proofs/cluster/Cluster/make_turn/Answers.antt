use Rattle.std.proofs.Common.{length, refl, arith}
use Rattle.std.specs.Vec.{with_item}
use Rattle.std.proofs.lemmas.Option.{slice_get_read}
use Rattle.booth_sim.proofs.ClusterEvents.{turn_happened}
use Rattle.booth_sim.proofs.cluster.Cluster.make_turn.Goals as goal

pub returns : goal.returns
returns c =
    let within = c.requires.place in
    let all = c.requires.ready.all in
    turn_happened c.args.place c.args.coming.now c.args.self.now
    (record c.args.self.now {
      daemons = with_item c.args.self.now.daemons c.args.place c.turn.new.daemon;
      frames = c.turn.new.frames;
      summary = c.turn.new.summary;
    })
    c.index_mut.result.now c.turn.new.daemon c.requires.reading c.requires.arrival
    (slice_get_read c.args.self.now.daemons.items (length c.args.self.now.daemons.items) c.args.place c.index_mut.result.now refl
    (omega (arith, within, all)) c.index_mut.ensures.value)
    refl refl refl c.in_ok-turn.ensures
