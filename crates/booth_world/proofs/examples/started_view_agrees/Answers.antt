use Rattle.booth_world.proofs.ExampleRuns.{started_agrees}
use Rattle.booth_world.proofs.examples.started_view_agrees.Goals as goal

pub returns : goal.returns
returns c = started_agrees
