use Rattle.booth_journal.proofs.OnceLemmas.{no_fault}
use Rattle.booth_journal.proofs.laws.journals_have_no_fault.Goals as goal

pub returns : goal.returns
returns c = no_fault
