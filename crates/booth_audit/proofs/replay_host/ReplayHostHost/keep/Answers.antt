use Rattle.std.proofs.Common.{◌∙◌, refl}
use Rattle.booth_host.specs.declared.entry.Entry.TheVariants as entries
use Rattle.booth_host.specs.Told.{told_past}
use Rattle.booth_journal.specs.declared.said.Call.TheVariants as calls
use Rattle.booth_journal.specs.Lines.{written}
use Rattle.booth_audit.proofs.ReadLemmas.{done_more}
use Rattle.booth_audit.proofs.replay_host.ReplayHostHost.keep.Goals as goal

pub invariant_of-self-2 : goal.invariant_of-self-2
invariant_of-self-2 g c =
    done_more g.J.ReplayedText.text g.J.ReplayedText.line
    (record { place = c.self.inside.lines; past = told_past c.self.inside.told })
    (record { place = c.done.new.self; past = told_past c.keep.new.self })
    (entries.Keep c.args.ticket.now c.args.rec.now c.in-Some.answer)
    (calls.Keep c.args.ticket.now (written c.args.rec.now))
    c.bytes.result.now c.in-Some.answer c.self.invariant c.keep.ensures.past refl
    (c.bytes.ensures.value ∙ c.spell_keep.ensures.bytes) (λ a may. may) tt c.in-Some.ensures
