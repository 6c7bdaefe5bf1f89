use Rattle.booth_wire.proofs.FaultLemmas.{gives_first_fault}
use Rattle.booth_wire.proofs.laws.first_fault_is_told.Goals as goal

pub returns : goal.returns
returns c = gives_first_fault
