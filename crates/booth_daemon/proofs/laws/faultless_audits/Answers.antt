use Rattle.booth_daemon.proofs.FaultlessLemmas.{faultless_audits}
use Rattle.booth_daemon.proofs.laws.faultless_audits.Goals as goal

pub returns : goal.returns
returns c = faultless_audits
