use Rattle.booth_ticket.proofs.StepLemmas.{carried_out}
use Rattle.booth_ticket.proofs.keeping.carry_out.Goals as goal

pub returns-clause-did : goal.returns-clause-did
returns-clause-did g c =
    carried_out c.args.from c.args.now (record { core = c.args.core.now; deed = c.args.deed })
    (record { core = c.keep_once-first.new.core; deed = c.keep_once-first.result })
    (record { core = c.keep_once-last.new.core; deed = c.keep_once-last.result }) c.setup.result.now c.setup.ensures.value
    c.keep_once-first.ensures.did c.keep_once-last.ensures.did c.say.ensures.did
