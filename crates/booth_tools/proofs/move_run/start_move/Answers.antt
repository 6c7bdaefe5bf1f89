use Rattle.booth_tools.proofs.MoveLemmas.{move_begun}
use Rattle.booth_tools.proofs.move_run.start_move.Goals as goal

pub returns-clause-past : goal.returns-clause-past
returns-clause-past g c =
    move_begun c.args.asked.now c.args.asking.config c.args.asking.ring c.args.target c.destination-to.result c.now-start.result
    c.copy.result c.carry_and_tell.result.outcome c.carry_and_tell.result.said c.destination-to.ensures c.copy.ensures
    c.now-start.ensures.past c.carry_and_tell.ensures.past
