use Rattle.std.proofs.Common.{◌++◌, ◌∙◌, sym}
use Rattle.std.specs.Prelude.{codes}
use Rattle.std.proofs.lemmas.List.{append_cancel_left}
use Rattle.booth_following.proofs.lines.is_of.Goals as goal

pub returns-in-None : goal.returns-in-None
returns-in-None c =
    λ of. c.in-None.ensures of.0 (append_cancel_left c.args.ticket.now c.in-Some.rest.now (codes " " ++ of.0) (sym c.in-Some.ensures ∙ of.1))
