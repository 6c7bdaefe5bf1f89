use Rattle.booth_audit.proofs.SendsLemmas.{unsent_is_found}
use Rattle.booth_audit.proofs.laws.unsent_is_found.Goals as goal

pub returns : goal.returns
returns c = unsent_is_found
