use Rattle.booth_audit.proofs.HoldingLemmas.{members_are_covered}
use Rattle.booth_audit.proofs.laws.members_are_covered.Goals as goal

pub returns : goal.returns
returns c = members_are_covered
