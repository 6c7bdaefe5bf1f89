use Rattle.booth_rec.specs.Spelling.{word, long, zeros}
use Rattle.booth_rec.proofs.SpellingLemmas.{pledge_written}
use Rattle.booth_rec.proofs.record.Record.pledge_fields.Goals as goal

pub returns : goal.returns
unfolding word long zeros
returns c =
    rw (
      c.copy_from_slice.ensures.after,
      c.copy_from_slice-2.ensures.after,
      c.copy_from_slice-3.ensures.after,
      c.bound_field.ensures,
      c.promise_fields.ensures,
      c.to_be_bytes.ensures,
    ) (pledge_written c.args.self.now)
