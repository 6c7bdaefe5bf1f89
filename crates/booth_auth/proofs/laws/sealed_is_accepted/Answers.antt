use Rattle.booth_auth.proofs.GateLemmas.{sealed_accepted}
use Rattle.booth_auth.proofs.laws.sealed_is_accepted.Goals as goal

pub returns : goal.returns
returns c = sealed_accepted
