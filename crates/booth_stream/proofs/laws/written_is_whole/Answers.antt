use Rattle.booth_stream.proofs.StepLemmas.{written_is_whole}
use Rattle.booth_stream.proofs.laws.written_is_whole.Goals as goal

pub returns : goal.returns
returns c = written_is_whole
