use Rattle.booth_followers.proofs.ServiceLemmas.{unfollowed}
use Rattle.booth_followers.proofs.service.follow_within.Goals as goal

pub returns-in-Err-clause-past : goal.returns-in-Err-clause-past
returns-in-Err-clause-past g c =
    unfollowed c.args.setting.now.left c.args.asked c.args.config c.in-Err.fault c.not_followed_text.result c.in-Err.ensures c.not_followed_text.ensures
