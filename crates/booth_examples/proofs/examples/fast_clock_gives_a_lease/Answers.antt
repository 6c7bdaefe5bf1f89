use Rattle.booth_examples.proofs.PremiseRuns.{fast_but, others_are_true, fast_two}
use Rattle.booth_examples.proofs.examples.fast_clock_gives_a_lease.Goals as goal

pub returns-clause-others : goal.returns-clause-others
returns-clause-others c = fast_but

pub returns-clause-only_one : goal.returns-clause-only_one
returns-clause-only_one c = others_are_true

pub returns-clause-two_hold : goal.returns-clause-two_hold
returns-clause-two_hold c = fast_two
