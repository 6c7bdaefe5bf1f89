use Rattle.booth_stream.proofs.RunLemmas.{given_is_prefix}
use Rattle.booth_stream.proofs.laws.given_is_prefix.Goals as goal

pub returns : goal.returns
returns c = given_is_prefix
