use Rattle.booth_services.proofs.ServiceLemmas.{services_are_apart}
use Rattle.booth_services.proofs.laws.services_are_apart.Goals as goal

pub returns : goal.returns
returns c = services_are_apart
