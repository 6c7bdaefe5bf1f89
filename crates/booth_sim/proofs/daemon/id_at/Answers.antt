-- The member at the place has its own id.
use Rattle.booth_sim.proofs.Starting.{id_known, id_there}
use Rattle.booth_sim.proofs.daemon.id_at.Goals as goal

pub returns-clause-same : goal.returns-clause-same
returns-clause-same c = id_there c.args.config.now c.members.result.now c.args.place _ c.members.ensures.value c.requires

pub returns-clause-known : goal.returns-clause-known
returns-clause-known c = id_known c.args.config.now c.members.result.now c.args.place _ c.members.ensures.value c.requires
