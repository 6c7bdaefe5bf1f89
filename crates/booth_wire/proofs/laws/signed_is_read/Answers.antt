use Rattle.booth_wire.proofs.AgainLemmas.{frame_read}
use Rattle.booth_wire.proofs.laws.signed_is_read.Goals as goal

pub returns : goal.returns
returns c = frame_read
