use Rattle.booth_ticket.proofs.LawLemmas.{asks_everyone}
use Rattle.booth_ticket.proofs.laws.grant_asks_all.Goals as goal

pub returns : goal.returns
returns c = asks_everyone
