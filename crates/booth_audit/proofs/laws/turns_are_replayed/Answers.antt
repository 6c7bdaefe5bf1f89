use Rattle.booth_audit.proofs.TurnLemmas.{turns_are_replayed}
use Rattle.booth_audit.proofs.laws.turns_are_replayed.Goals as goal

pub returns : goal.returns
returns c = turns_are_replayed
