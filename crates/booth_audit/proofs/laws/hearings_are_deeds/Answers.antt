use Rattle.booth_audit.proofs.HearingsLemmas.{hearings_are_deeds}
use Rattle.booth_audit.proofs.laws.hearings_are_deeds.Goals as goal

pub returns : goal.returns
returns c = hearings_are_deeds
