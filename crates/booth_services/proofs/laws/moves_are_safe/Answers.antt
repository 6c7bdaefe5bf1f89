use Rattle.booth_services.proofs.MoveLemmas.{moves_are_safe}
use Rattle.booth_services.proofs.laws.moves_are_safe.Goals as goal

pub returns : goal.returns
returns c = moves_are_safe
