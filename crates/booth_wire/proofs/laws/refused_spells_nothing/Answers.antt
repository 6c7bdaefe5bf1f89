use Rattle.booth_wire.proofs.AgainLemmas.{none_spelled}
use Rattle.booth_wire.proofs.laws.refused_spells_nothing.Goals as goal

pub returns : goal.returns
returns c = none_spelled
