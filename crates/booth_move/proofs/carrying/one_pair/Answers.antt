use Rattle.std.proofs.Common.{◌∙◌, sym}
use Rattle.booth_move.proofs.CarryingLemmas.{gone_on, goes_on, is_end, last_pair, stuck}
use Rattle.booth_move.proofs.carrying.one_pair.Goals as goal

pub returns-in-Some-clause-past : goal.returns-in-Some-clause-past
returns-in-Some-clause-past g c =
    last_pair c.args.moving.now c.args.mover.now.stage c.told-deed.new.mover.stage c.in-Some.end c.next-answer.ensures.past c.now-reading.ensures.past
    (sym c.told-deed.ensures.deed ∙ is_end c.told-deed.result c.in-Some.end c.in-Some.ensures)

pub returns-in-Ok-clause-past : goal.returns-in-Ok-clause-past
returns-in-Ok-clause-past g c =
    gone_on c.args.moving.now c.args.mover.now.stage c.told-deed.new.mover.stage c.told-deed.result c.next-answer.ensures.past c.now-reading.ensures.past
    c.told-deed.ensures.deed c.told-deed.ensures.stage c.in-Ok.ensures.past

pub returns-in-Ok-clause-goes : goal.returns-in-Ok-clause-goes
returns-in-Ok-clause-goes g c =
    goes_on c.args.mover.now.stage c.told-deed.new.mover.stage c.told-deed.result c.in-None.ensures c.told-deed.ensures.lessens

pub returns-in-Err-clause-past : goal.returns-in-Err-clause-past
returns-in-Err-clause-past g c =
    stuck c.args.moving.now c.args.mover.now.stage c.told-deed.new.mover.stage c.told-deed.result c.in-Err.failed c.next-answer.ensures.past c.now-reading.ensures.past
    c.told-deed.ensures.deed c.in-Err.ensures.past
