use Rattle.booth_examples.proofs.PremiseRuns.{foreign_but, foreign_two}
use Rattle.booth_examples.proofs.examples.foreign_records_are_held.Goals as goal

pub returns-clause-others : goal.returns-clause-others
returns-clause-others c = foreign_but

pub returns-clause-two_hold : goal.returns-clause-two_hold
returns-clause-two_hold c = foreign_two
