use Rattle.booth_daemon.proofs.StatusLemmas.{looked}
use Rattle.booth_daemon.proofs.status.status.Goals as goal

pub returns-in-Ok-clause-past : goal.returns-in-Ok-clause-past
returns-in-Ok-clause-past g c =
    looked c.args.lock.now c.print.result.said c.in-Ok.is_free c.print.result.outcome c.print.ensures.outcome
    (rw c.as_str.ensures.value at c.in-Ok.ensures.past) c.print.ensures.past
