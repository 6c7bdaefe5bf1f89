use Rattle.booth_journal.proofs.OnceLemmas.{one_fault}
use Rattle.booth_journal.proofs.laws.texts_have_one_fault.Goals as goal

pub returns : goal.returns
returns c = one_fault
