use Rattle.booth_daemon.proofs.SimulatingLemmas.{simulated}
use Rattle.booth_daemon.proofs.simulating.simulate.Goals as goal

pub returns-in-Ok-clause-past : goal.returns-in-Ok-clause-past
returns-in-Ok-clause-past g c =
    simulated c.args.asked.now c.in-Ok.config c.run.result.outcome c.run.result.said c.in-Ok.ensures.past c.run.ensures.past
