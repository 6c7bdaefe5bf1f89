use Rattle.booth_auth.proofs.FaultLemmas.{tells_first_fault}
use Rattle.booth_auth.proofs.laws.gate_tells_first_fault.Goals as goal

pub returns : goal.returns
returns c = tells_first_fault
