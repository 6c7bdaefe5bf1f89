use Rattle.booth_audit.proofs.OwnLemmas.{replays_are_own}
use Rattle.booth_audit.proofs.laws.replays_are_own.Goals as goal

pub returns : goal.returns
returns c = replays_are_own
