use Rattle.booth_followers.proofs.RoundLemmas.{rounds_are_turns}
use Rattle.booth_followers.proofs.laws.rounds_are_turns.Goals as goal

pub returns : goal.returns
returns c = rounds_are_turns
