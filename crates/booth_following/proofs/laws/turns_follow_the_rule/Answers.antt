use Rattle.booth_following.proofs.LawLemmas.{follow_rule}
use Rattle.booth_following.proofs.laws.turns_follow_the_rule.Goals as goal

pub returns : goal.returns
returns c = follow_rule
