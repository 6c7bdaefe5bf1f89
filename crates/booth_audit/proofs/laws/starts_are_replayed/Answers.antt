use Rattle.booth_audit.proofs.StartLemmas.{starts_are_replayed}
use Rattle.booth_audit.proofs.laws.starts_are_replayed.Goals as goal

pub returns : goal.returns
returns c = starts_are_replayed
