use Rattle.booth_examples.proofs.UntimedRuns.{fast_is_untimed, fast_is_second, fast_two_hold}
use Rattle.booth_examples.proofs.examples.fast_clock_gives_a_lease_of_its_term.Goals as goal

pub returns-clause-untimed : goal.returns-clause-untimed
returns-clause-untimed c = fast_is_untimed

pub returns-clause-second : goal.returns-clause-second
returns-clause-second c = fast_is_second

pub returns-clause-two_hold : goal.returns-clause-two_hold
returns-clause-two_hold c = fast_two_hold
