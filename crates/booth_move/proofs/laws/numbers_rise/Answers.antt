use Rattle.booth_move.proofs.LawLemmas.{rise}
use Rattle.booth_move.proofs.laws.numbers_rise.Goals as goal

pub returns : goal.returns
returns c = rise
