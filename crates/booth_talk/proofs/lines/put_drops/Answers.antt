use Rattle.std.proofs.Common.{◌++◌, ◌∙◌, ap, append_assoc, codes}
use Rattle.std.proofs.lemmas.Result.{IfOk-weaker}
use Rattle.booth_talk.specs.Forms.{drop_labels, labelled}
use Rattle.booth_talk.proofs.lines.put_drops.Goals as goal

pub returns : goal.returns
returns c =
    IfOk-weaker c.put.result _ _
    (λ x put. put ∙ ap (λ b. b ++ codes "\n") (c.in_ok-put_labelled.ensures ∙ ap (λ t. c.args.shown.now.items ++ labelled drop_labels t) c.rest.ensures)
    ∙ append_assoc c.args.shown.now.items _ (codes "\n")) c.put.ensures
