use Rattle.booth_tools.proofs.MoveLemmas.{answered_moved, move_keyed, move_keyless}
use Rattle.booth_tools.proofs.move_run.move_to.Goals as goal

pub returns-in-Ok-clause-past : goal.returns-in-Ok-clause-past
returns-in-Ok-clause-past g c =
    move_keyed c.args.asked c.args.config c.args.target c.in-Ok.cluster c.set_out.result.outcome c.set_out.result.said
    c.in-Ok.ensures.past c.set_out.ensures.past

pub returns-in-Err-clause-past : goal.returns-in-Err-clause-past
returns-in-Err-clause-past g c = move_keyless c.args.asked c.args.config c.args.target c.in-Err.ended c.in-Err.ensures.past

pub returns-in-Err-clause-served : goal.returns-in-Err-clause-served
returns-in-Err-clause-served g c = answered_moved c.in-Err.ended.outcome c.in-Err.ensures.served
