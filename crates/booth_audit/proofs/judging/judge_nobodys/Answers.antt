use Rattle.std.proofs.Common.{◌∙◌, ap}
use Rattle.booth_audit.specs.Tally.{nothing_tallied}
use Rattle.booth_audit.proofs.JudgingLemmas.{nobodys_true}
use Rattle.booth_audit.proofs.judging.judge_nobodys.Goals as goal

pub returns-in-Ok : goal.returns-in-Ok
returns-in-Ok c ring earlier said is =
    nobodys_true is (c.in_default.ensures said is.says) (c.in-Ok.ensures ∙ ap nothing_tallied c.tickets.ensures.value)
