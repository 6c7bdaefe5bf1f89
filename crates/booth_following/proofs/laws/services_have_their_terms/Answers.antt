use Rattle.booth_following.proofs.TermLemmas.{terms}
use Rattle.booth_following.proofs.laws.services_have_their_terms.Goals as goal

pub returns : goal.returns
returns c = terms
