use Rattle.std.specs.Prelude.{◌++◌, codes, length}
use Rattle.std.proofs.Common.{◌<◌, subst}
use Rattle.booth_host.specs.declared.datagram.TheConstants.{DATAGRAM_BYTES}
use Rattle.booth_journal.specs.Reading.{SpellsArrival, SpellsDatagram}
use Rattle.booth_journal.proofs.PartLemmas.{too_long}
use Rattle.booth_journal.proofs.ReadingLemmas.{only_data, reads_fault, reads_none}
use Rattle.booth_journal.proofs.reading.data.Goals as goal

pub returns-in-Err : goal.returns-in-Err
returns-in-Err c =
    reads_fault (SpellsDatagram c.args.rest.now) (SpellsArrival (codes "data " ++ c.args.rest.now)) c.in-Err.fault
    c.in-Err.ensures (λ never. only_data c.args.rest.now (λ came spells short. never came spells))

pub returns-then-bytes-gt-DATAGRAM_BYTES : goal.returns-then-bytes-gt-DATAGRAM_BYTES
returns-then-bytes-gt-DATAGRAM_BYTES c =
    reads_none (SpellsArrival (codes "data " ++ c.args.rest.now))
    (too_long c.args.rest.now c.in-Ok.came c.in-Ok.ensures.found
    (subst (λ l. DATAGRAM_BYTES < length l) c.bytes.ensures c.if-bytes-gt-DATAGRAM_BYTES.true))
