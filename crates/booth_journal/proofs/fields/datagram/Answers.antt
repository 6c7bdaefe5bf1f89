use Rattle.booth_journal.specs.Reading.{SpellsAddress, SpellsBytes, SpellsDatagram, SpellsPort}
use Rattle.booth_journal.proofs.PartLemmas.{datagram_cut_once, no_datagram_address, no_datagram_bytes, no_datagram_port}
use Rattle.booth_journal.proofs.ReadingLemmas.{reads_fault, reads_none}
use Rattle.booth_journal.proofs.fields.datagram.Goals as goal

pub returns-in_default-cut : goal.returns-in_default-cut
returns-in_default-cut c =
    reads_none (SpellsDatagram c.args.text.now)
    (datagram_cut_once c.args.text.now c.in-Some.first.now c.in-Some.more.now c.in-Some.ensures c.in_default-cut.ensures)

pub returns-in-Err : goal.returns-in-Err
returns-in-Err c =
    reads_fault (SpellsAddress c.in-Some.first.now) (SpellsDatagram c.args.text.now) c.in-Err.fault c.in-Err.ensures
    (no_datagram_address c.args.text.now c.in-Some.first.now c.in-Some.more.now c.in-Some-cut.second.now
    c.in-Some-cut.third.now c.in-Some.ensures c.in-Some-cut.ensures)

pub returns-in-Err-port : goal.returns-in-Err-port
returns-in-Err-port c =
    reads_fault (SpellsPort c.in-Some-cut.second.now) (SpellsDatagram c.args.text.now) c.in-Err-port.fault
    c.in-Err-port.ensures
    (no_datagram_port c.args.text.now c.in-Some.first.now c.in-Some.more.now c.in-Some-cut.second.now
    c.in-Some-cut.third.now c.in-Some.ensures c.in-Some-cut.ensures)

pub returns-in-Err-bytes_of : goal.returns-in-Err-bytes_of
returns-in-Err-bytes_of c =
    reads_fault (SpellsBytes c.in-Some-cut.third.now) (SpellsDatagram c.args.text.now) c.in-Err-bytes_of.fault
    c.in-Err-bytes_of.ensures
    (no_datagram_bytes c.args.text.now c.in-Some.first.now c.in-Some.more.now c.in-Some-cut.second.now
    c.in-Some-cut.third.now c.in-Some.ensures c.in-Some-cut.ensures)
