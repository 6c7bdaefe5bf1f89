use Rattle.booth_world.proofs.LogSessions.{stopped_logs_are_sessions}
use Rattle.booth_world.proofs.laws.stopped_logs_are_sessions.Goals as goal

pub returns : goal.returns
returns c = stopped_logs_are_sessions
