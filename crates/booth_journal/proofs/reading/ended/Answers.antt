use Rattle.std.specs.Prelude.{◌++◌, codes}
use Rattle.booth_journal.specs.Reading.{SpellsArrival, SpellsNumber, SpellsStatus}
use Rattle.booth_journal.proofs.PartLemmas.{no_ended_job, no_ended_status}
use Rattle.booth_journal.proofs.ReadingLemmas.{reads_fault}
use Rattle.booth_journal.proofs.reading.ended.Goals as goal

pub returns-in-Err : goal.returns-in-Err
returns-in-Err c =
    reads_fault (SpellsNumber c.in-Some.first.now) (SpellsArrival (codes "handler " ++ c.args.rest.now)) c.in-Err.fault
    c.in-Err.ensures (no_ended_job c.args.rest.now c.in-Some.first.now c.in-Some.second.now c.in-Some.ensures)

pub returns-in-Err-status : goal.returns-in-Err-status
returns-in-Err-status c =
    reads_fault (SpellsStatus c.in-Some.second.now) (SpellsArrival (codes "handler " ++ c.args.rest.now))
    c.in-Err-status.fault c.in-Err-status.ensures
    (no_ended_status c.args.rest.now c.in-Some.first.now c.in-Some.second.now c.in-Some.ensures)
