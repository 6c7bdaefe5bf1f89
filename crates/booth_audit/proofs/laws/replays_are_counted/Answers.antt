use Rattle.booth_audit.proofs.CountedLemmas.{replays_are_counted}
use Rattle.booth_audit.proofs.laws.replays_are_counted.Goals as goal

pub returns : goal.returns
returns c = replays_are_counted
