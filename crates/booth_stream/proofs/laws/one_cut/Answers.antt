use Rattle.booth_stream.proofs.CutLemmas.{one_cut}
use Rattle.booth_stream.proofs.laws.one_cut.Goals as goal

pub returns : goal.returns
returns c = one_cut
