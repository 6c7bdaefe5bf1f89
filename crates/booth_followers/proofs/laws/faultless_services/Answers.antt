use Rattle.booth_followers.proofs.FaultlessLemmas.{faultless_services}
use Rattle.booth_followers.proofs.laws.faultless_services.Goals as goal

pub returns : goal.returns
returns c = faultless_services
