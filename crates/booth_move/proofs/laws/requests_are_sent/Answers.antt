use Rattle.booth_move.proofs.CarriedLemmas.{requests_sent}
use Rattle.booth_move.proofs.laws.requests_are_sent.Goals as goal

pub returns : goal.returns
returns c = requests_sent
