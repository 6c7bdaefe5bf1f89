use Rattle.std.proofs.Common.{◌+◌, length, refl, arith}
use Rattle.std.specs.Vec.{with_item}
use Rattle.std.proofs.lemmas.Option.{slice_get_read}
use Rattle.booth_sim.proofs.ClusterEvents.{restart_happened}
use Rattle.booth_sim.proofs.cluster.Cluster.restart.Goals as goal

pub returns : goal.returns
returns c fails =
    let within = c.requires.place in
    let all = c.requires.ready.all in
    restart_happened c.args.place c.reading_at-reading.result fails c.args.self.now
    (record c.args.self.now {
      daemons = with_item c.args.self.now.daemons c.args.place c.restart.new.self;
      summary = record c.args.self.now.summary { restarts = c.args.self.now.summary.restarts + 1 };
    })
    c.index_mut.result.now c.restart.new.self c.reading_at-reading.ensures
    (slice_get_read c.args.self.now.daemons.items (length c.args.self.now.daemons.items) c.args.place c.index_mut.result.now refl
    (omega (arith, within, all)) c.index_mut.ensures.value)
    refl refl refl refl refl c.in_ok-restart.ensures.starts
