use Rattle.booth_progress.proofs.ExchangeLemmas.{sessions_send}
use Rattle.booth_progress.proofs.laws.turns_send.Goals as goal

pub returns : goal.returns
returns c = sessions_send
