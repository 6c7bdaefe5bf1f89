use Rattle.booth_evidence.proofs.GoingOn.{starts_go_on}
use Rattle.booth_evidence.proofs.laws.starts_go_on.Goals as goal

pub returns : goal.returns
returns c = starts_go_on
