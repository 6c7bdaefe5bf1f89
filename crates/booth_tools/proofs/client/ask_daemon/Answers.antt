use Rattle.booth_tools.proofs.ClientLemmas.{asked_all, not_asked}
use Rattle.booth_tools.proofs.client.ask_daemon.Goals as goal

pub returns-in-Ok-clause-past : goal.returns-in-Ok-clause-past
returns-in-Ok-clause-past g c =
    asked_all c.args.asked c.in-Ok.cluster c.converse.result.outcome c.converse.result.said c.in-Ok.ensures.past c.converse.ensures.past

pub returns-in-Err-clause-past : goal.returns-in-Err-clause-past
returns-in-Err-clause-past g c = not_asked c.args.asked c.in-Err.ended c.in-Err.ensures.past
