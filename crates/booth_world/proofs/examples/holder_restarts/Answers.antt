use Rattle.booth_world.proofs.ExampleRuns.{restarts, restart_held}
use Rattle.booth_world.proofs.examples.holder_restarts.Goals as goal

pub returns-clause-run : goal.returns-clause-run
returns-clause-run c = restarts

pub returns-clause-held : goal.returns-clause-held
returns-clause-held c = restart_held
