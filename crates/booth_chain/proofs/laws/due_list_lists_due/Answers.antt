use Rattle.booth_chain.proofs.DueOrderLemmas.{lists_due}
use Rattle.booth_chain.proofs.laws.due_list_lists_due.Goals as goal

pub returns : goal.returns
returns c = lists_due
