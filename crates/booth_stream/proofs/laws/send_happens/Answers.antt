use Rattle.booth_stream.proofs.StepLemmas.{send_happens}
use Rattle.booth_stream.proofs.laws.send_happens.Goals as goal

pub returns : goal.returns
returns c = send_happens
