use Rattle.booth_world.proofs.LogSessions.{cut_sessions_are_sessions}
use Rattle.booth_world.proofs.laws.cut_sessions_are_sessions.Goals as goal

pub returns : goal.returns
returns c = cut_sessions_are_sessions
