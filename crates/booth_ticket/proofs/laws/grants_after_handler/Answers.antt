use Rattle.booth_ticket.proofs.ManualLawLemmas.{grants_after_handler as law}
use Rattle.booth_ticket.proofs.laws.grants_after_handler.Goals as goal

pub returns : goal.returns
returns c = law
