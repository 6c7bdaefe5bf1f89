use Rattle.booth_audit.proofs.HoldingLemmas.{holdings_cover}
use Rattle.booth_audit.proofs.laws.holdings_cover.Goals as goal

pub returns : goal.returns
returns c = holdings_cover
