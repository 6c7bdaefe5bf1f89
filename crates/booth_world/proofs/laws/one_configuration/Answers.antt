use Rattle.booth_world.proofs.Configured.{one_configuration_is_enough}
use Rattle.booth_world.proofs.laws.one_configuration.Goals as goal

pub returns : goal.returns
returns c = one_configuration_is_enough
