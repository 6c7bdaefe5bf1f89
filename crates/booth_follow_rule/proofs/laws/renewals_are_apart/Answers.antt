use Rattle.booth_follow_rule.proofs.PlainLemmas.{apart}
use Rattle.booth_follow_rule.proofs.laws.renewals_are_apart.Goals as goal

pub returns : goal.returns
returns c = apart
