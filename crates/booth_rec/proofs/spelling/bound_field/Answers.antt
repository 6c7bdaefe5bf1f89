use Rattle.std.proofs.Common.{refl}
use Rattle.booth_rec.specs.Spelling.{word}
use Rattle.booth_rec.proofs.spelling.bound_field.Goals as goal

pub returns-in-Some : goal.returns-in-Some
unfolding word
returns-in-Some c = rw (c.to_be_bytes.ensures, c.in-Some.is) refl

pub returns-in-None : goal.returns-in-None
unfolding word
returns-in-None c = rw c.in-None.is refl
