use Rattle.std.proofs.lemmas.Result.{IfOk-weaker}
use Rattle.booth_talk.proofs.ReportLemmas.{of_form, other_form, when_none, when_some}
use Rattle.booth_talk.proofs.reports.shown.Goals as goal

pub returns-in-Some-2 : goal.returns-in-Some-2
returns-in-Some-2 c =
    let lines = when_some _ _ _ c.in-Some-2.shown c.in-Some-2.is c.in_ok-shown.ensures in
    of_form c.args.form c.args.text.now c.in-Some.body.now c.in-Some-2.shown.items c.from_vec.result c.in-Some.ensures
    lines.0 lines.1 c.from_vec.ensures

pub returns-in-None : goal.returns-in-None
returns-in-None c =
    IfOk-weaker c.new-in-None.result _ _
    (λ report same. other_form c.args.form c.args.text.now c.in-Some.body.now report c.in-Some.ensures (when_none _ _ _ c.in-None.is c.in_ok-shown.ensures) same)
    c.new-in-None.ensures
