use Rattle.booth_daemon.proofs.FaultlessLemmas.{faultless_looks}
use Rattle.booth_daemon.proofs.laws.faultless_looks.Goals as goal

pub returns : goal.returns
returns c = faultless_looks
