use Rattle.booth_wire.proofs.AgainLemmas.{letters_same}
use Rattle.booth_wire.proofs.laws.one_message.Goals as goal

pub returns : goal.returns
returns c = letters_same
