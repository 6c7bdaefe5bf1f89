use Rattle.booth_ticket.proofs.StepLemmas.{ticked}
use Rattle.booth_ticket.proofs.automatic.tick.Goals as goal

pub returns-clause-did : goal.returns-clause-did
returns-clause-did g c =
    ticked c.args.core.now c.hello-words.new.self c.args.given c.hello-words.result c.setup.result.now
    (record { core = c.role_due-deed.new.core; deed = c.role_due-deed.result })
    (record { core = c.carry_out.new.core; deed = c.carry_out.result }) c.hello-words.ensures.say c.hello-words.ensures.view
    c.setup.ensures.value c.say.ensures.did c.role_due-deed.ensures.did c.carry_out.ensures.did
