use Rattle.booth_audit.proofs.FoundLemmas.{tickets_are_found}
use Rattle.booth_audit.proofs.laws.tickets_are_found.Goals as goal

pub returns : goal.returns
returns c = tickets_are_found
