use Rattle.booth_world.proofs.LoneRuns.{lone_entered, lone_holds}
use Rattle.booth_world.proofs.examples.lone_core_holds.Goals as goal

pub returns-clause-entered : goal.returns-clause-entered
returns-clause-entered c = lone_entered

pub returns-clause-held : goal.returns-clause-held
returns-clause-held c = lone_holds
