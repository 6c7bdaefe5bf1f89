use Rattle.booth_world.proofs.LoneRuns.{lone_hosted, lone_host_holds}
use Rattle.booth_world.proofs.examples.lone_host_holds.Goals as goal

pub returns-clause-hosted : goal.returns-clause-hosted
returns-clause-hosted c = lone_hosted

pub returns-clause-held : goal.returns-clause-held
returns-clause-held c = lone_host_holds
