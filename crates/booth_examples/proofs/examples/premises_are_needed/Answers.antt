use Rattle.booth_examples.proofs.NeededPremises.{premises_are_needed}
use Rattle.booth_examples.proofs.examples.premises_are_needed.Goals as goal

pub returns : goal.returns
returns c = premises_are_needed
