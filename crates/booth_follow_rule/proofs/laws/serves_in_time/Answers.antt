use Rattle.booth_follow_rule.proofs.TimeLemmas.{in_time}
use Rattle.booth_follow_rule.proofs.laws.serves_in_time.Goals as goal

pub returns : goal.returns
returns c = in_time
