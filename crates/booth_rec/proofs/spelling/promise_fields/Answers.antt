use Rattle.std.proofs.Common.{refl}
use Rattle.booth_rec.specs.Spelling.{word, long}
use Rattle.booth_rec.proofs.spelling.promise_fields.Goals as goal

pub returns-in-Some : goal.returns-in-Some
unfolding word long
returns-in-Some c =
    rw (
      c.copy_from_slice.ensures.after,
      c.copy_from_slice-in-Some.ensures.after,
      c.copy_from_slice-in-Some-2.ensures.after,
      c.to_be_bytes.ensures,
      c.to_be_bytes-in-Some.ensures,
      c.to_be_bytes-in-Some-2.ensures,
      c.in-Some.is,
    ) refl

pub returns-in_default : goal.returns-in_default
unfolding word long
returns-in_default c = rw c.in_default.is refl
