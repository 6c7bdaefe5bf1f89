use Rattle.std.proofs.Common.{List, ℕ, ap}
use Rattle.booth_journal.specs.Lines.{answer_text, arrival_answer, line}
use Rattle.booth_journal.proofs.JournalLemmas.{as_text, in_order, wrote_both}
use Rattle.booth_journal.proofs.journaling.JournalHostHost.next.Goals as goal

pub returns-clause-order : goal.returns-clause-order
returns-clause-order g c =
    in_order c.write.ensures.wrote c.write.ensures.calls c.call_next-answer.ensures.journal
    c.call_next-answer.ensures.noted
    (as_text (ap (λ (l : List ℕ). line (answer_text (arrival_answer c.call_next-answer.result l))) c.bytes.ensures.value)
    c.write_arrival.ensures.wrote) c.write_arrival.ensures.calls c.write_arrival.ensures.host

pub returns-clause-wrote : goal.returns-clause-wrote
returns-clause-wrote g c = wrote_both (returns-clause-order g c)
