use Rattle.booth_node.proofs.MayLemmas.{majorities}
use Rattle.booth_node.proofs.laws.majorities_gain.Goals as goal

pub returns : goal.returns
returns c = majorities
