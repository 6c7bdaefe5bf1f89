use Rattle.booth_move.proofs.CarriedLemmas.{carries}
use Rattle.booth_move.proofs.laws.carries_deeds.Goals as goal

pub returns : goal.returns
returns c = carries
