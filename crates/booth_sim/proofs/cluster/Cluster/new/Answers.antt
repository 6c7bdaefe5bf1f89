use Rattle.std.proofs.Common.{refl}
use Rattle.booth_sim.specs.declared.cluster.Cluster.{Cluster}
use Rattle.booth_sim.proofs.ClusterStarts.{cluster_starts, starts_with}
use Rattle.booth_sim.proofs.cluster.Cluster.new.Goals as goal

pub returns : goal.returns
returns c =
    let cluster : Cluster = record {
      alloc = c.args.alloc;
      config = c.args.config;
      daemons = c.in_ok-start_daemons.field-0;
      frames = c.new.result;
      request = c.in_ok-new.field-0;
      time = 0;
      summary = c.args.summary;
    } in
    starts_with c.args.config _ cluster c.config.view_is
    (cluster_starts c.args.config cluster c.requires.sound refl c.in_ok-start_daemons.ensures c.new.ensures refl c.requires.nothing)
