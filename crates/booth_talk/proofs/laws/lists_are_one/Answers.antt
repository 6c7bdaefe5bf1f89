use Rattle.booth_talk.proofs.PartLemmas.{lists_are_one}
use Rattle.booth_talk.proofs.laws.lists_are_one.Goals as goal

pub returns : goal.returns
returns c = lists_are_one
