use Rattle.booth_daemon.proofs.SessionLemmas.{runs_are_sessions}
use Rattle.booth_daemon.proofs.laws.runs_are_sessions.Goals as goal

pub returns : goal.returns
returns c = runs_are_sessions
