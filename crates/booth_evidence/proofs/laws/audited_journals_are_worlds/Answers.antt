use Rattle.booth_evidence.proofs.Evidence.{journals_are_worlds}
use Rattle.booth_evidence.proofs.laws.audited_journals_are_worlds.Goals as goal

pub returns : goal.returns
returns c = journals_are_worlds
