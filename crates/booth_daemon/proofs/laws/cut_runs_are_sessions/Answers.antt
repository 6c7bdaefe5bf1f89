use Rattle.booth_daemon.proofs.SessionLemmas.{cut_runs_are_sessions}
use Rattle.booth_daemon.proofs.laws.cut_runs_are_sessions.Goals as goal

pub returns : goal.returns
returns c = cut_runs_are_sessions
