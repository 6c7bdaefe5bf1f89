use Rattle.booth_followers.proofs.ServiceLemmas.{with_key, without_key}
use Rattle.booth_followers.proofs.service.follow_with.Goals as goal

pub returns-in-Ok-clause-past : goal.returns-in-Ok-clause-past
returns-in-Ok-clause-past g c =
    with_key c.args.setting.now.left c.args.asked c.args.config c.args.margins c.in-Ok.ring c.set_out.result.outcome c.set_out.result.said
    c.in-Ok.ensures.past c.set_out.ensures.past

pub returns-in-Err-clause-past : goal.returns-in-Err-clause-past
returns-in-Err-clause-past g c = without_key c.args.setting.now.left c.args.asked c.args.config c.args.margins c.in-Err.ended c.in-Err.ensures.past
