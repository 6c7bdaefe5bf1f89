use Rattle.booth_following.proofs.LawLemmas.{lists}
use Rattle.booth_following.proofs.laws.lists_are_authentic.Goals as goal

pub returns : goal.returns
returns c = lists
