use Rattle.booth_rec.specs.Spelling.{word, long, zeros}
use Rattle.booth_rec.proofs.SpellingLemmas.{head_written}
use Rattle.booth_rec.proofs.record.Record.head.Goals as goal

pub returns : goal.returns
unfolding word long zeros
returns c =
    rw (
      c.copy_from_slice.ensures.after,
      c.copy_from_slice-2.ensures.after,
      c.copy_from_slice-3.ensures.after,
      c.copy_from_slice-4.ensures.after,
      c.to_be_bytes.ensures,
      c.to_be_bytes-2.ensures,
      c.to_be_bytes-3.ensures,
      c.lease_fields.ensures,
    ) (head_written c.args.version c.args.bits c.args.self.now)
