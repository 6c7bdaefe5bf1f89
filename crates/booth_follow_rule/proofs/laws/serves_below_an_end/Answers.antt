use Rattle.booth_follow_rule.proofs.PlainLemmas.{serves}
use Rattle.booth_follow_rule.proofs.laws.serves_below_an_end.Goals as goal

pub returns : goal.returns
returns c = serves
