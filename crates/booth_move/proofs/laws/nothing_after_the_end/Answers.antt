use Rattle.booth_move.proofs.EndLemmas.{ends_once}
use Rattle.booth_move.proofs.laws.nothing_after_the_end.Goals as goal

pub returns : goal.returns
returns c = ends_once
