use Rattle.booth_sim.proofs.OneSimulation.{one_simulation}
use Rattle.booth_sim.proofs.laws.one_simulation.Goals as goal

pub returns : goal.returns
returns c = one_simulation
