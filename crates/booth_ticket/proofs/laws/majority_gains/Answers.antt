use Rattle.booth_ticket.proofs.LawLemmas.{gains}
use Rattle.booth_ticket.proofs.laws.majority_gains.Goals as goal

pub returns : goal.returns
returns c = gains
