use Rattle.booth_evidence.proofs.Overlapping.{lines_are_apart}
use Rattle.booth_evidence.proofs.laws.lines_are_apart.Goals as goal

pub returns : goal.returns
returns c = lines_are_apart
