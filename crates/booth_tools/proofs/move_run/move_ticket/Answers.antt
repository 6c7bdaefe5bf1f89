use Rattle.booth_tools.proofs.MoveLemmas.{moved_all, not_moved, unread_moved}
use Rattle.booth_tools.proofs.move_run.move_ticket.Goals as goal

pub returns-in-Ok-clause-past : goal.returns-in-Ok-clause-past
returns-in-Ok-clause-past g c =
    moved_all c.args.asked c.in-Ok.config c.move_within.result.outcome c.move_within.result.said c.in-Ok.ensures.past
    c.move_within.ensures.past

pub returns-in-Err-clause-past : goal.returns-in-Err-clause-past
returns-in-Err-clause-past g c = not_moved c.args.asked c.in-Err.ended c.in-Err.ensures.past

pub returns-in-Err-clause-served : goal.returns-in-Err-clause-served
returns-in-Err-clause-served g c = unread_moved c.in-Err.ended.outcome c.in-Err.ensures.unread
