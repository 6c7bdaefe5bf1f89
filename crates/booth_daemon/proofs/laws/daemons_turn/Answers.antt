use Rattle.booth_daemon.proofs.SessionLemmas.{daemons_turn}
use Rattle.booth_daemon.proofs.laws.daemons_turn.Goals as goal

pub returns : goal.returns
returns c = daemons_turn
