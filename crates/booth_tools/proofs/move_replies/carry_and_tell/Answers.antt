use Rattle.booth_tools.proofs.MoveLemmas.{move_told, move_untold}
use Rattle.booth_tools.proofs.move_replies.carry_and_tell.Goals as goal

pub returns-in-Ok-clause-past : goal.returns-in-Ok-clause-past
returns-in-Ok-clause-past g c =
    move_told c.args.asked.now c.args.moving.now c.args.start c.in-Ok.how c.end.result.outcome c.end.result.said
    c.in-Ok.ensures.past c.end.ensures.past

pub returns-in-Err-clause-past : goal.returns-in-Err-clause-past
returns-in-Err-clause-past g c =
    move_untold c.args.asked.now c.args.moving.now c.args.start c.in-Err.field-0 c.line_of.result c.line_of.ensures
    c.in-Err.ensures.past
