use Rattle.booth_following.proofs.JoinedTurns.{silent_turns, turns_then, turns_under}
use Rattle.booth_following.proofs.laws.turns_go_on.Goals as goal

pub returns : goal.returns
returns c = record { silent = silent_turns; rekeyed = turns_under; joined = turns_then }
