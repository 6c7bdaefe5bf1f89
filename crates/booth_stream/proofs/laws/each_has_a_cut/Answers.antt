use Rattle.booth_stream.proofs.CutLemmas.{cuts_each}
use Rattle.booth_stream.proofs.laws.each_has_a_cut.Goals as goal

pub returns : goal.returns
returns c = cuts_each
