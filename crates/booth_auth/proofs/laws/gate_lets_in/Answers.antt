use Rattle.booth_auth.proofs.GateLemmas.{lets_in}
use Rattle.booth_auth.proofs.laws.gate_lets_in.Goals as goal

pub returns : goal.returns
returns c = lets_in
