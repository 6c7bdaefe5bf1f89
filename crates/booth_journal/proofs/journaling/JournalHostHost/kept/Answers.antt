use Rattle.booth_journal.proofs.JournalLemmas.{as_text, in_order, wrote_both}
use Rattle.booth_journal.proofs.journaling.JournalHostHost.kept.Goals as goal

pub returns-clause-order : goal.returns-clause-order
returns-clause-order g c =
    in_order (as_text c.kept_line.ensures c.write_draft.ensures.wrote) c.write_draft.ensures.calls
    c.call_kept-answer.ensures.journal c.call_kept-answer.ensures.noted
    (as_text c.found_line.ensures c.write_draft-2.ensures.wrote) c.write_draft-2.ensures.calls c.write_draft-2.ensures.host

pub returns-clause-wrote : goal.returns-clause-wrote
returns-clause-wrote g c = wrote_both (returns-clause-order g c)
