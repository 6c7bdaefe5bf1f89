use Rattle.booth_audit.proofs.ExchangeLemmas.{exchanges_tell}
use Rattle.booth_audit.proofs.laws.exchanges_tell.Goals as goal

pub returns : goal.returns
returns c = exchanges_tell
