use Rattle.booth_move.proofs.ReplyLemmas.{let_go}
use Rattle.booth_move.proofs.laws.grants_are_let.Goals as goal

pub returns : goal.returns
returns c = let_go
