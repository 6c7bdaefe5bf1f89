use Rattle.booth_daemon.proofs.SimulatingLemmas.{printed}
use Rattle.booth_daemon.proofs.simulating.run.Goals as goal

pub returns-in-Ok-clause-outcome : goal.returns-in-Ok-clause-outcome
returns-in-Ok-clause-outcome g c = c.print.ensures.outcome c.args.asked.now.conf

pub returns-in-Ok-clause-past : goal.returns-in-Ok-clause-past
returns-in-Ok-clause-past g c =
    printed c.args.config c.args.asked.now c.in-Ok.summary c.print.result.outcome c.print.result.said
    c.in-Ok.ensures.counts c.in-Ok.ensures.one_holder c.print.ensures.past
