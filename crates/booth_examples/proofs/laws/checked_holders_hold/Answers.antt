use Rattle.booth_examples.proofs.HoldingLemmas.{holders_hold, two_hold}
use Rattle.booth_examples.proofs.laws.checked_holders_hold.Goals as goal

pub returns-clause-one : goal.returns-clause-one
returns-clause-one c = holders_hold

pub returns-clause-two : goal.returns-clause-two
returns-clause-two c = two_hold
