use Rattle.std.specs.Option.{option_copied}
use Rattle.std.proofs.Common.{subst, sym}
use Rattle.booth_audit.specs.Judging.{IsJudged}
use Rattle.booth_audit.proofs.FoundLemmas.{tickets_are_found}
use Rattle.booth_audit.proofs.JudgingLemmas.{members_judged}
use Rattle.booth_audit.proofs.judging.judge_members.Goals as goal

pub returns-in-Ok : goal.returns-in-Ok
returns-in-Ok c earlier said is =
    subst (IsJudged c.args.config.now (option_copied c.args.ring) earlier c.args.text.now) (sym c.conclude.ensures)
    (members_judged (tickets_are_found c.args.config.now c.sound.ensures) c.in-Some.ensures is (c.in-Ok.ensures said is.says))
