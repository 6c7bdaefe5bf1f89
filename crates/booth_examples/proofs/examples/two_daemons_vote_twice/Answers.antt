use Rattle.booth_examples.proofs.PremiseRuns.{daemons_but, two_daemons, sites_have_one, daemons_two}
use Rattle.booth_examples.proofs.examples.two_daemons_vote_twice.Goals as goal

pub returns-clause-others : goal.returns-clause-others
returns-clause-others c = daemons_but

pub returns-clause-two_daemons : goal.returns-clause-two_daemons
returns-clause-two_daemons c = two_daemons

pub returns-clause-sites : goal.returns-clause-sites
returns-clause-sites c = sites_have_one

pub returns-clause-two_hold : goal.returns-clause-two_hold
returns-clause-two_hold c = daemons_two
