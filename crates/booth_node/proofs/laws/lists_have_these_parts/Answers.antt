use Rattle.booth_node.proofs.CutLemmas.{these}
use Rattle.booth_node.proofs.laws.lists_have_these_parts.Goals as goal

pub returns : goal.returns
returns c = these
