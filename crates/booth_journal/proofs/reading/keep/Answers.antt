use Rattle.std.specs.Prelude.{◌++◌, codes}
use Rattle.booth_journal.specs.Reading.{SpellsCall, SpellsName, SpellsRecord}
use Rattle.booth_journal.proofs.ReadingLemmas.{no_name, no_record, reads_fault}
use Rattle.booth_journal.proofs.reading.keep.Goals as goal

pub returns-in-Err : goal.returns-in-Err
returns-in-Err c =
    reads_fault (SpellsName c.in-Some.first.now) (SpellsCall (codes "keep " ++ c.args.rest.now)) c.in-Err.fault
    c.in-Err.ensures (no_name c.args.rest.now c.in-Some.first.now c.in-Some.second.now c.in-Some.ensures)

pub returns-in-Err-record_of : goal.returns-in-Err-record_of
returns-in-Err-record_of c =
    reads_fault (SpellsRecord c.in-Some.second.now) (SpellsCall (codes "keep " ++ c.args.rest.now))
    c.in-Err-record_of.fault c.in-Err-record_of.ensures
    (no_record c.args.rest.now c.in-Some.first.now c.in-Some.second.now c.in-Some.ensures)
