use Rattle.std.proofs.Common.{None, subst, sym}
use Rattle.booth_host.specs.Past.{GrewSome}
use Rattle.booth_talk.specs.declared.list_wait.Listed.{Listed}
use Rattle.booth_talk.specs.Parts.{text_of}
use Rattle.booth_tools.specs.MoveLook.{IsJudged}
use Rattle.booth_tools.proofs.MoveLemmas.{not_held}
use Rattle.booth_tools.proofs.move_look.judged.Goals as goal

pub returns-in-Ok-false-clause-past : goal.returns-in-Ok-false-clause-past
returns-in-Ok-false-clause-past g c =
    subst (λ (l : Listed). GrewSome (IsJudged c.args.asked.now l (text_of c.args.room.now.parts) None) (g.H.Host.past c.args.host.now) (g.H.Host.past c.args.host.now))
    (sym c.in-Whole.is)
    (not_held c.args.asked.now (text_of c.args.room.now.parts) c.in-Ok-false.field-0 c.in-Ok-false.field-0-test c.in-Ok-false.ensures)
