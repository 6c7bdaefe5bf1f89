use Rattle.booth_examples.proofs.CheckLemmas.{worlds_are, lack_one, second_worlds_are}
use Rattle.booth_examples.proofs.laws.checked_worlds_are_worlds.Goals as goal

pub returns-clause-whole : goal.returns-clause-whole
returns-clause-whole c = worlds_are

pub returns-clause-but_one : goal.returns-clause-but_one
returns-clause-but_one c = lack_one

pub returns-clause-second : goal.returns-clause-second
returns-clause-second c = second_worlds_are
