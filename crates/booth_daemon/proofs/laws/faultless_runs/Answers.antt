use Rattle.booth_daemon.proofs.FaultlessLemmas.{faultless_runs}
use Rattle.booth_daemon.proofs.laws.faultless_runs.Goals as goal

pub returns : goal.returns
returns c = faultless_runs
