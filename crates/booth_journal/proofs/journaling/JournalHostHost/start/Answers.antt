use Rattle.booth_journal.proofs.JournalLemmas.{as_text, in_order, wrote_both}
use Rattle.booth_journal.proofs.journaling.JournalHostHost.start.Goals as goal

pub returns-clause-order : goal.returns-clause-order
returns-clause-order g c =
    in_order (as_text c.job_line.ensures c.write_draft.ensures.wrote) c.write_draft.ensures.calls
    c.call_start-answer.ensures.journal c.call_start-answer.ensures.noted c.write_done.ensures.wrote
    c.write_done.ensures.calls c.write_done.ensures.host

pub returns-clause-wrote : goal.returns-clause-wrote
returns-clause-wrote g c = wrote_both (returns-clause-order g c)
