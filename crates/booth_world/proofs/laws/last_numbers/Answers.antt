use Rattle.booth_world.proofs.LastNumberLemmas.{last_numbers}
use Rattle.booth_world.proofs.laws.last_numbers.Goals as goal

pub returns : goal.returns
returns c = last_numbers
