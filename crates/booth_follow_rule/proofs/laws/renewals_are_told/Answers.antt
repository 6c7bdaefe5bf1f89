use Rattle.booth_follow_rule.proofs.PlainLemmas.{renewals}
use Rattle.booth_follow_rule.proofs.laws.renewals_are_told.Goals as goal

pub returns : goal.returns
returns c = renewals
