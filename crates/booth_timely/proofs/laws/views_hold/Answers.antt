use Rattle.booth_timely.proofs.HoldingLemmas.{views_hold}
use Rattle.booth_timely.proofs.laws.views_hold.Goals as goal

pub returns : goal.returns
returns c = views_hold
