use Rattle.std.proofs.Common.{arith}
use Rattle.booth_journal.proofs.HexLemmas.{hex_of_some}
use Rattle.booth_journal.proofs.JournalLemmas.{then_wrote, as_text}
use Rattle.booth_journal.proofs.journal_host.JournalHost.write_with.Goals as goal

pub returns-else-bytes-le-DATAGRAM_BYTES-clause-wrote : goal.returns-else-bytes-le-DATAGRAM_BYTES-clause-wrote
returns-else-bytes-le-DATAGRAM_BYTES-clause-wrote g c =
    let more = c.if-bytes-le-DATAGRAM_BYTES.false in
    then_wrote
    (then_wrote c.write_draft-else-bytes-le-DATAGRAM_BYTES.ensures.wrote
    (as_text (hex_of_some c.args.bytes.now (omega (arith, more))) c.write_pieces.ensures.wrote))
    c.write.ensures.wrote
