use Rattle.booth_stream.proofs.StepLemmas.{next_happens}
use Rattle.booth_stream.proofs.laws.next_happens.Goals as goal

pub returns : goal.returns
returns c = next_happens
