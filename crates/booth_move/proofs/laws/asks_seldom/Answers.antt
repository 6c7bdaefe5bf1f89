use Rattle.booth_move.proofs.LawLemmas.{seldom}
use Rattle.booth_move.proofs.laws.asks_seldom.Goals as goal

pub returns : goal.returns
returns c = seldom
