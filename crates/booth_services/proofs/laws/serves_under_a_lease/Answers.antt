use Rattle.booth_services.proofs.ServiceLemmas.{serves_under_a_lease}
use Rattle.booth_services.proofs.laws.serves_under_a_lease.Goals as goal

pub returns : goal.returns
returns c = serves_under_a_lease
