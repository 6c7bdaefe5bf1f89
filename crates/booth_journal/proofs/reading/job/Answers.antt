use Rattle.std.specs.Prelude.{◌++◌, codes}
use Rattle.booth_journal.specs.Reading.{SpellsCall, SpellsName, SpellsNumber}
use Rattle.booth_journal.proofs.PartLemmas.{job_cut_once, no_job_expires, no_job_number, no_job_ticket}
use Rattle.booth_journal.proofs.ReadingLemmas.{reads_fault, reads_none}
use Rattle.booth_journal.proofs.reading.job.Goals as goal

pub returns-in_default-cut : goal.returns-in_default-cut
returns-in_default-cut c =
    reads_none (SpellsCall (codes "job " ++ c.args.rest.now))
    (job_cut_once c.args.rest.now c.in-Some.first.now c.in-Some.more.now c.in-Some.ensures c.in_default-cut.ensures)

pub returns-in-Err : goal.returns-in-Err
returns-in-Err c =
    reads_fault (SpellsNumber c.in-Some.first.now) (SpellsCall (codes "job " ++ c.args.rest.now)) c.in-Err.fault
    c.in-Err.ensures (no_job_number c.args.rest.now c.in-Some.first.now c.in-Some.more.now c.in-Some.ensures)

pub returns-in-Err-name : goal.returns-in-Err-name
returns-in-Err-name c =
    reads_fault (SpellsName c.in-Some-cut.second.now) (SpellsCall (codes "job " ++ c.args.rest.now)) c.in-Err-name.fault
    c.in-Err-name.ensures
    (no_job_ticket c.args.rest.now c.in-Some.first.now c.in-Some.more.now c.in-Some-cut.second.now c.in-Some-cut.third.now
    c.in-Some.ensures c.in-Some-cut.ensures)

pub returns-in-Err-number : goal.returns-in-Err-number
returns-in-Err-number c =
    reads_fault (SpellsNumber c.in-Some-cut.third.now) (SpellsCall (codes "job " ++ c.args.rest.now))
    c.in-Err-number.fault c.in-Err-number.ensures
    (no_job_expires c.args.rest.now c.in-Some.first.now c.in-Some.more.now c.in-Some-cut.second.now
    c.in-Some-cut.third.now c.in-Some.ensures c.in-Some-cut.ensures)
