use Rattle.booth_followers.proofs.ServiceLemmas.{read_all}
use Rattle.booth_followers.proofs.service.follow_ticket.Goals as goal

pub returns-in-Ok-clause-past : goal.returns-in-Ok-clause-past
returns-in-Ok-clause-past g c =
    read_all c.args.setting.now.left c.args.asked c.in-Ok.config c.follow_within.result.outcome c.follow_within.result.said c.in-Ok.ensures.past
    c.follow_within.ensures.past
