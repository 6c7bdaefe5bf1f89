use Rattle.std.proofs.Common.{refl}
use Rattle.booth_host.specs.declared.entry.Entry.TheVariants as entries
use Rattle.booth_host.specs.Told.{told_past}
use Rattle.booth_journal.specs.declared.said.Answer.TheVariants.{Reading}
use Rattle.booth_journal.specs.declared.said.Call.TheVariants as calls
use Rattle.booth_journal.specs.Lines.{call_text}
use Rattle.booth_audit.specs.Left.{IsReadingBy}
use Rattle.booth_audit.proofs.ReadLemmas.{asked_more}
use Rattle.booth_audit.proofs.replay_host.ReplayHostHost.now.Goals as goal

pub invariant_of-self-2 : goal.invariant_of-self-2
invariant_of-self-2 g c =
    asked_more g.J.ReplayedText.text g.J.ReplayedText.line
    (record { place = c.self.inside.lines; past = told_past c.self.inside.told })
    (record { place = c.reading.new.self; past = told_past c.now.new.self })
    (entries.Now c.in-Some.reading) calls.Now (call_text calls.Now)
    (IsReadingBy c.in-Some.reading) (Reading c.in-Some.reading)
    c.self.invariant c.now.ensures.past refl refl (λ a may fits. (fits may, tt)) c.in-Some.ensures
