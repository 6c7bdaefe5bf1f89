use Rattle.std.specs.Prelude.{Some}
use Rattle.std.proofs.Common.{◌∙◌, ap, refl}
use Rattle.booth_audit.specs.declared.end.End.{End}
use Rattle.booth_audit.proofs.CourseLemmas.{behind_cut}
use Rattle.booth_audit.proofs.sessions.left_behind.Goals as goal

pub returns-in-Some-Cut : goal.returns-in-Some-Cut
returns-in-Some-Cut c =
    let cut = rw c.in-Some-Cut.is at c.in-Some-Cut.field-0-is in
    behind_cut c.args.from.line (c.in-Some-Cut.is ∙ ap (λ (e : End). Some e) cut) refl c.skip.ensures
