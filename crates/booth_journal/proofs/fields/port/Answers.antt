use Rattle.std.proofs.Common.{arith}
use Rattle.booth_journal.specs.Reading.{SpellsPort}
use Rattle.booth_journal.proofs.FieldLemmas.{no_port}
use Rattle.booth_journal.proofs.ReadingLemmas.{reads_none}
use Rattle.booth_journal.proofs.fields.port.Goals as goal

pub returns-in-Ok-2 : goal.returns-in-Ok-2
returns-in-Ok-2 c =
    reads_none (SpellsPort c.args.text.now)
    (no_port c.args.text.now c.in-Ok.number c.in-Ok.ensures.found (omega (arith, c.if-number-lt65536.false)))
