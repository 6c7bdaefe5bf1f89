use Rattle.booth_chain.proofs.DueListLemmas.{same_slots}
use Rattle.booth_step_rows.proofs.timers.due_counted.Goals as goal

pub returns-clause-slots : goal.returns-clause-slots
returns-clause-slots g c = same_slots _ _ _ _ c.due.ensures.due
