use Rattle.booth_tools.proofs.MoveLemmas.{looked_up, moved_on, no_move_room}
use Rattle.booth_tools.proofs.move_run.set_out.Goals as goal

pub returns-in_default-clause-past : goal.returns-in_default-clause-past
returns-in_default-clause-past g c =
    no_move_room c.args.asked c.args.cluster.config c.args.cluster.ring c.args.target c.out_of_memory.result c.out_of_memory.ensures.outcome
    c.out_of_memory.ensures.said

pub returns-in-Some-clause-past : goal.returns-in-Some-clause-past
returns-in-Some-clause-past g c =
    looked_up c.args.asked c.args.cluster.config c.args.cluster.ring c.args.target c.in-Some.ended.outcome c.in-Some.ended.said
    c.in-Ok-open_socket.ensures.past c.in-Some.ensures.past

pub returns-clause-past : goal.returns-clause-past
returns-clause-past g c =
    moved_on c.args.asked c.args.cluster.config c.args.cluster.ring c.args.target c.start_move.result.outcome c.start_move.result.said
    c.in-Ok-open_socket.ensures.past c.in-None.ensures.past c.start_move.ensures.past
