use Rattle.booth_journal.proofs.BlankLemmas.{begins_otherwise}
use Rattle.booth_journal.proofs.cutting.behind.Goals as goal

pub returns-else-eq : goal.returns-else-eq
returns-else-eq c =
    begins_otherwise c.args.begin.now c.split_at.result.0.now c.args.text.now c.split_at.ensures.front c.if-eq.ensures
