use Rattle.booth_examples.proofs.PremiseRuns.{falling_but, falling_two}
use Rattle.booth_examples.proofs.examples.falling_version_gives_leases.Goals as goal

pub returns-clause-others : goal.returns-clause-others
returns-clause-others c = falling_but

pub returns-clause-two_hold : goal.returns-clause-two_hold
returns-clause-two_hold c = falling_two
