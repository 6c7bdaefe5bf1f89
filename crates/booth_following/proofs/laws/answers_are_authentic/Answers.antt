use Rattle.booth_following.proofs.StandingLemmas.{answers}
use Rattle.booth_following.proofs.laws.answers_are_authentic.Goals as goal

pub returns : goal.returns
returns c = answers
