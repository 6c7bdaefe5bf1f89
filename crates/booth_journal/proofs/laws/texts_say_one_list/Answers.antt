use Rattle.booth_journal.proofs.OnceLemmas.{one_list_said}
use Rattle.booth_journal.proofs.laws.texts_say_one_list.Goals as goal

pub returns : goal.returns
returns c = one_list_said
