use Rattle.booth_tools.proofs.MoveFaultless.{faultless_talks}
use Rattle.booth_tools.proofs.laws.faultless_talks.Goals as goal

pub returns : goal.returns
returns c = faultless_talks
