use Rattle.booth_move.proofs.ReplyLemmas.{told}
use Rattle.booth_move.proofs.laws.ends_are_told.Goals as goal

pub returns : goal.returns
returns c = told
