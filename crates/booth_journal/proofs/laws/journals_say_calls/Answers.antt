use Rattle.booth_journal.proofs.SaysLemmas.{journals_say_calls}
use Rattle.booth_journal.proofs.laws.journals_say_calls.Goals as goal

pub returns : goal.returns
returns c = journals_say_calls
