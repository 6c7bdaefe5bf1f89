use Rattle.booth_journal.proofs.JournalLemmas.{as_text, in_order, wrote_both}
use Rattle.booth_journal.proofs.journaling.JournalHostHost.now.Goals as goal

pub returns-clause-order : goal.returns-clause-order
returns-clause-order g c =
    in_order c.write.ensures.wrote c.write.ensures.calls c.call_now-reading.ensures.journal
    c.call_now-reading.ensures.noted (as_text c.reading_line.ensures c.write_draft.ensures.wrote)
    c.write_draft.ensures.calls c.write_draft.ensures.host

pub returns-clause-wrote : goal.returns-clause-wrote
returns-clause-wrote g c = wrote_both (returns-clause-order g c)
