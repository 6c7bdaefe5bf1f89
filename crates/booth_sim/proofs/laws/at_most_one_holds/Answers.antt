use Rattle.booth_sim.proofs.HoldersOnce.{at_most_one}
use Rattle.booth_sim.proofs.laws.at_most_one_holds.Goals as goal

pub returns : goal.returns
returns c = at_most_one c.one_holder.ensures.worlds c.simulations_are_worlds.ensures
