use Rattle.booth_keys.proofs.KeyLemmas.{key_is_kept}
use Rattle.booth_keys.proofs.laws.key_text_is_key.Goals as goal

pub returns : goal.returns
returns c = key_is_kept
