use Rattle.booth_wire.proofs.AgainLemmas.{spelling_read}
use Rattle.booth_wire.proofs.laws.spelling_is_read.Goals as goal

pub returns : goal.returns
returns c = spelling_read
