use Rattle.booth_daemon.proofs.FaultlessLemmas.{faultless_simulations}
use Rattle.booth_daemon.proofs.laws.faultless_simulations.Goals as goal

pub returns : goal.returns
returns c = faultless_simulations
