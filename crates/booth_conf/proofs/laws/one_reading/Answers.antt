use Rattle.booth_conf.proofs.BothWays.{one_reading}
use Rattle.booth_conf.proofs.laws.one_reading.Goals as goal

pub returns : goal.returns
returns c = one_reading
