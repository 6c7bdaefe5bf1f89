use Rattle.std.proofs.Common.{◌++◌, List, ℕ, ap}
use Rattle.booth_journal.specs.Lines.{hex_text, line}
use Rattle.booth_journal.proofs.JournalLemmas.{as_text, in_order, wrote_both}
use Rattle.booth_journal.proofs.journaling.JournalHostHost.send.Goals as goal

pub returns-clause-order : goal.returns-clause-order
returns-clause-order g c =
    in_order
    (as_text (ap (λ (l : List ℕ). line (l ++ hex_text c.args.bytes.now)) c.send_head.ensures.bytes) c.write_with.ensures.wrote)
    c.write_with.ensures.calls c.call_send-answer.ensures.journal c.call_send-answer.ensures.noted
    c.write_done.ensures.wrote c.write_done.ensures.calls c.write_done.ensures.host

pub returns-clause-wrote : goal.returns-clause-wrote
returns-clause-wrote g c = wrote_both (returns-clause-order g c)
