use Rattle.booth_auth.proofs.SealLemmas.{sealed_read}
use Rattle.booth_auth.proofs.laws.sealed_is_read.Goals as goal

pub returns : goal.returns
returns c = sealed_read
