use Rattle.std.proofs.Common.{◌≡◌, rules}
use Rattle.std.specs.Prelude.{if◌then◌else◌, is_some}
use Rattle.booth_rec.specs.Spelling.{word, long, zeros}
use Rattle.booth_rec.proofs.SpellingLemmas.{first_written}
use Rattle.booth_rec.proofs.record.Record.encode_first.Goals as goal

pub returns : goal.returns
unfolding word long zeros
returns c =
    let bits : c.from.result ≡ (if is_some c.args.self.now.lease then 1 else 0) = search rules in
    rw (c.copy_from_slice.ensures.after, c.head.ensures, bits) (first_written c.args.self.now)
