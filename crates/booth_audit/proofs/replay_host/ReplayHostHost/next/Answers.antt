use Rattle.std.proofs.Common.{List, [], ◌∷◌, ℕ, refl, subst}
use Rattle.booth_host.specs.declared.entry.Entry.TheVariants as entries
use Rattle.booth_host.specs.Past.{GrewBy}
use Rattle.booth_host.specs.Told.{told_past}
use Rattle.booth_journal.specs.declared.said.Call.TheVariants as calls
use Rattle.booth_journal.specs.Lines.{arrival_answer, call_text}
use Rattle.booth_audit.specs.Left.{IsArrivalBy}
use Rattle.booth_audit.proofs.ReadLemmas.{asked_more}
use Rattle.booth_audit.proofs.replay_host.ReplayHostHost.next.Goals as goal

pub invariant_of-self-2 : goal.invariant_of-self-2
invariant_of-self-2 g c =
    asked_more g.J.ReplayedText.text g.J.ReplayedText.line
    (record { place = c.self.inside.lines; past = told_past c.self.inside.told })
    (record { place = c.arrival.new.self; past = told_past c.next.new.self })
    (entries.Next c.args.wait_ms c.in-Some.answer c.arrival.new.into) calls.Next (call_text calls.Next)
    (IsArrivalBy c.in-Some.answer c.arrival.new.into) (arrival_answer c.in-Some.answer c.arrival.new.into)
    c.self.invariant
    (subst (λ (b : List ℕ). GrewBy (told_past c.self.inside.told) (told_past c.next.new.self)
    (entries.Next c.args.wait_ms c.in-Some.answer b ∷ [])) c.bytes.ensures.value c.next.ensures.past)
    refl refl (λ a may fits. fits may) c.in-Some.ensures
