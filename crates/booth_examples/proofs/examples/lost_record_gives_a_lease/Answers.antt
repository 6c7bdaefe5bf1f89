use Rattle.booth_examples.proofs.PremiseRuns.{lost_but, lost_two}
use Rattle.booth_examples.proofs.examples.lost_record_gives_a_lease.Goals as goal

pub returns-clause-others : goal.returns-clause-others
returns-clause-others c = lost_but

pub returns-clause-two_hold : goal.returns-clause-two_hold
returns-clause-two_hold c = lost_two
