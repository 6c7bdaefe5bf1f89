use Rattle.booth_timely.proofs.HoldingLemmas.{leases_last}
use Rattle.booth_timely.proofs.laws.leases_last.Goals as goal

pub returns : goal.returns
returns c = leases_last
