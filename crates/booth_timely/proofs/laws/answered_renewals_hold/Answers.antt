use Rattle.booth_timely.proofs.HoldingLemmas.{answered_renewals_hold}
use Rattle.booth_timely.proofs.laws.answered_renewals_hold.Goals as goal

pub returns : goal.returns
returns c = answered_renewals_hold
