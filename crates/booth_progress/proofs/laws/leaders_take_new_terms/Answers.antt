use Rattle.booth_progress.proofs.SteadyLemmas.{leaders_take_new_terms}
use Rattle.booth_progress.proofs.laws.leaders_take_new_terms.Goals as goal

pub returns : goal.returns
returns c = leaders_take_new_terms
