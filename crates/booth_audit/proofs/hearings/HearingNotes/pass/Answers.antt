use Rattle.std.proofs.Common.{subst}
use Rattle.std.specs.Prelude.{None}
use Rattle.booth_audit.specs.Hearings.{Hearings, IsPassed}
use Rattle.booth_audit.proofs.HearingsLemmas.{passed}
use Rattle.booth_audit.proofs.hearings.HearingNotes.pass.Goals as goal

pub returns-clause-passed : goal.returns-clause-passed
returns-clause-passed c =
    subst (λ (old : Hearings). IsPassed old (record { waiting = None; all = c.self.inside.all.items })) c.self.view_is
    (passed (record { waiting = c.self.inside.waiting; all = c.self.inside.all.items }))
