use Rattle.booth_audit.proofs.NotedLemmas.{notes_are_deeds}
use Rattle.booth_audit.proofs.laws.notes_are_deeds.Goals as goal

pub returns : goal.returns
returns c = notes_are_deeds
