use Rattle.booth_daemon.proofs.SimulatingLemmas.{example}
use Rattle.booth_daemon.proofs.simulating.choose.Goals as goal

pub returns-in-None-clause-past : goal.returns-in-None-clause-past
returns-in-None-clause-past g c = example c.args.path.now c.example.result c.in-None.is c.example.ensures.config c.example.ensures.memory
