use Rattle.std.proofs.Common.{subst, sym}
use Rattle.std.proofs.lemmas.Result.{IfOk-weaker}
use Rattle.booth_wire.specs.PlainMessage.{plain_of}
use Rattle.booth_talk.specs.declared.lines.Form.TheVariants as forms
use Rattle.booth_talk.specs.Report.{IsShown, Reports}
use Rattle.booth_talk.proofs.reports.report.Goals as goal

pub returns-in-List : goal.returns-in-List
returns-in-List c =
    IfOk-weaker c.list_report.result _ _
    (λ report is.
    subst (λ o. Reports c.args.asking.now.config o (plain_of c.args.reply.now) report) (sym c.in-List.is)
    (subst (λ t. IsShown forms.List t report) c.text_in.ensures is)) c.list_report.ensures

pub returns-in-Peers : goal.returns-in-Peers
returns-in-Peers c =
    IfOk-weaker c.shown.result _ _
    (λ report is.
    subst (λ o. Reports c.args.asking.now.config o (plain_of c.args.reply.now) report) (sym c.in-Peers.is)
    (subst (λ t. IsShown forms.Peers t report) c.text_in-in-Peers.ensures is)) c.shown.ensures
