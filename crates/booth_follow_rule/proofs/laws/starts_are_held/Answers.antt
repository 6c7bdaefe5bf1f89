use Rattle.booth_follow_rule.proofs.PlainLemmas.{starts}
use Rattle.booth_follow_rule.proofs.laws.starts_are_held.Goals as goal

pub returns : goal.returns
returns c = starts
