use Rattle.booth_examples.proofs.CheckLemmas.{begin_free}
use Rattle.booth_examples.proofs.laws.checked_beginnings_are_free.Goals as goal

pub returns : goal.returns
returns c = begin_free
