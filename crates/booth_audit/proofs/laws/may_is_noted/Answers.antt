use Rattle.booth_audit.proofs.KeptLemmas.{may_is_noted}
use Rattle.booth_audit.proofs.laws.may_is_noted.Goals as goal

pub returns : goal.returns
returns c = may_is_noted
