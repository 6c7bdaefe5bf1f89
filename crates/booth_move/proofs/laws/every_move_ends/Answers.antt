use Rattle.booth_move.proofs.EndLemmas.{every_end}
use Rattle.booth_move.proofs.laws.every_move_ends.Goals as goal

pub returns : goal.returns
returns c = every_end
