use Rattle.booth_following.proofs.LawLemmas.{no_later}
use Rattle.booth_following.proofs.laws.ends_are_no_later.Goals as goal

pub returns : goal.returns
returns c = no_later
