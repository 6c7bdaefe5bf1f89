use Rattle.booth_examples.proofs.PremiseRuns.{first_but, first_two}
use Rattle.booth_examples.proofs.examples.leases_at_first_are_held.Goals as goal

pub returns-clause-others : goal.returns-clause-others
returns-clause-others c = first_but

pub returns-clause-two_hold : goal.returns-clause-two_hold
returns-clause-two_hold c = first_two
