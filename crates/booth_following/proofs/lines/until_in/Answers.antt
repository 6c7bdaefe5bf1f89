use Rattle.std.proofs.Common.{arith}
use Rattle.booth_following.proofs.LineLemmas.{behind_is, few_seconds, told_until}
use Rattle.booth_following.proofs.lines.until_in.Goals as goal

pub returns-in_default-number : goal.returns-in_default-number
returns-in_default-number c until told =
    c.in_default-number.ensures told.seconds (few_seconds c.args.start.now c.args.line.now until told)
    (behind_is c.args.start.now c.args.line.now c.in-Some.rest.now until c.in-Some.ensures told)

pub returns : goal.returns
returns c =
    told_until c.args.start.now c.args.line.now c.in-Some.rest.now c.in-Some-number.seconds c.checked_mul.result c.in-Some.ensures
    c.in-Some-number.ensures (omega arith) c.checked_mul.ensures
