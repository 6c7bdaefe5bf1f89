use Rattle.std.specs.Prelude.{◌++◌, codes}
use Rattle.booth_journal.specs.Reading.{SpellsCall, SpellsDatagram}
use Rattle.booth_journal.proofs.ReadingLemmas.{only_send, reads_fault}
use Rattle.booth_journal.proofs.reading.send.Goals as goal

pub returns-in-Err : goal.returns-in-Err
returns-in-Err c =
    reads_fault (SpellsDatagram c.args.rest.now) (SpellsCall (codes "send " ++ c.args.rest.now)) c.in-Err.fault
    c.in-Err.ensures (only_send c.args.rest.now)
