use Rattle.booth_progress.proofs.ExampleLemmas.{a_lease_is_renewed}
use Rattle.booth_progress.proofs.examples.a_lease_is_renewed.Goals as goal

pub returns : goal.returns
returns c = a_lease_is_renewed
