use Rattle.booth_world.proofs.LogSessions.{logs_are_sessions}
use Rattle.booth_world.proofs.laws.logs_are_sessions.Goals as goal

pub returns : goal.returns
returns c = logs_are_sessions
