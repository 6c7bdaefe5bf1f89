use Rattle.booth_following.proofs.StandingLemmas.{answers_no_later}
use Rattle.booth_following.proofs.laws.answers_end_no_later.Goals as goal

pub returns : goal.returns
returns c = answers_no_later
