use Rattle.std.proofs.Common.{arith}
use Rattle.booth_journal.proofs.BlankLemmas.{cut_there, uncut}
use Rattle.booth_journal.proofs.cutting.cut.Goals as goal

pub returns-then-len-text : goal.returns-then-len-text
returns-then-len-text c =
    cut_there c.args.end c.first_len-len.result c.args.text.now c.first_len-len.ensures c.if-len-text.true

pub returns-else-len-text : goal.returns-else-len-text
returns-else-len-text c =
    uncut c.args.end c.args.text.now (omega (arith, c.if-len-text.false, c.first_len-len.ensures))
