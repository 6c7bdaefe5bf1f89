use Rattle.booth_auth.proofs.GateLemmas.{change_one_by_one}
use Rattle.booth_auth.proofs.laws.keys_change_one_by_one.Goals as goal

pub returns : goal.returns
returns c = change_one_by_one
