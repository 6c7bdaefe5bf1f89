use Rattle.booth_move.proofs.LawLemmas.{places}
use Rattle.booth_move.proofs.laws.places_are_members.Goals as goal

pub returns : goal.returns
returns c = places
