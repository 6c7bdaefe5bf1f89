use Rattle.booth_follow_rule.proofs.HeardLemmas.{heard}
use Rattle.booth_follow_rule.proofs.laws.knows_what_is_heard.Goals as goal

pub returns : goal.returns
returns c = heard
