use Rattle.booth_ticket.proofs.ManualLawLemmas.{revokes_by_hand as law}
use Rattle.booth_ticket.proofs.laws.revokes_by_hand.Goals as goal

pub returns : goal.returns
returns c = law
