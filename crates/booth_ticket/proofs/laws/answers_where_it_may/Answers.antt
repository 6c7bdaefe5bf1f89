use Rattle.booth_ticket.proofs.RoundLawLemmas.{answers}
use Rattle.booth_ticket.proofs.laws.answers_where_it_may.Goals as goal

pub returns : goal.returns
returns c = answers
