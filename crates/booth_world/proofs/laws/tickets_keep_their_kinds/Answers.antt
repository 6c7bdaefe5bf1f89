use Rattle.booth_world.proofs.KeptLaws.{tickets_keep_their_kinds}
use Rattle.booth_world.proofs.laws.tickets_keep_their_kinds.Goals as goal

pub returns : goal.returns
returns c = tickets_keep_their_kinds
