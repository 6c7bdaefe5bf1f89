use Rattle.booth_follow_rule.proofs.KnownLemmas.{deeds_let}
use Rattle.booth_follow_rule.proofs.laws.deeds_are_let.Goals as goal

pub returns : goal.returns
returns c = deeds_let
