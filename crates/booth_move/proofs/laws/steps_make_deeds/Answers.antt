use Rattle.booth_move.proofs.LawLemmas.{deeds_made}
use Rattle.booth_move.proofs.laws.steps_make_deeds.Goals as goal

pub returns : goal.returns
returns c = deeds_made
