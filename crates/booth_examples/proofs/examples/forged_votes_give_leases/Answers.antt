use Rattle.booth_examples.proofs.PremiseRuns.{forged_but, forged_two}
use Rattle.booth_examples.proofs.examples.forged_votes_give_leases.Goals as goal

pub returns-clause-others : goal.returns-clause-others
returns-clause-others c = forged_but

pub returns-clause-two_hold : goal.returns-clause-two_hold
returns-clause-two_hold c = forged_two
