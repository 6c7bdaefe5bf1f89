-- The head stands before the pledge, and nothing behind it.
use Rattle.std.proofs.Common.{◌∙◌, sym}
use Rattle.booth_rec.specs.Spelling.{word, long, zeros}
use Rattle.booth_rec.proofs.SpellingLemmas.{second_written, spelled_second}
use Rattle.booth_rec.proofs.record.Record.encode.Goals as goal

pub returns : goal.returns
unfolding word long zeros
returns c =
    rw (c.copy_from_slice.ensures.after, c.copy_from_slice-2.ensures.after, c.head.ensures, c.flags.ensures, c.pledge_fields.ensures)
    (second_written c.args.self.now ∙ sym (spelled_second c.args.self.now c.requires))
