use Rattle.booth_node.proofs.MayLemmas.{rounds}
use Rattle.booth_node.proofs.laws.rounds_are_answered.Goals as goal

pub returns : goal.returns
returns c = rounds
