use Rattle.booth_examples.proofs.PremiseRuns.{configured_but, configured_two}
use Rattle.booth_examples.proofs.examples.two_configurations_give_leases.Goals as goal

pub returns-clause-others : goal.returns-clause-others
returns-clause-others c = configured_but

pub returns-clause-two_hold : goal.returns-clause-two_hold
returns-clause-two_hold c = configured_two
