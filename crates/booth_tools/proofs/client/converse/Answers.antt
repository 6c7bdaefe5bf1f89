use Rattle.booth_tools.proofs.ClientLemmas.{conversed, no_room}
use Rattle.booth_tools.proofs.client.converse.Goals as goal

pub returns-in_default-clause-past : goal.returns-in_default-clause-past
returns-in_default-clause-past g c =
    no_room c.args.asked c.args.cluster.config c.args.cluster.ring c.out_of_memory.result c.out_of_memory.ensures.outcome
    c.out_of_memory.ensures.said

pub returns-clause-past : goal.returns-clause-past
returns-clause-past g c =
    conversed c.args.asked c.args.cluster.config c.args.cluster.ring c.destination-to.result c.now-start.result
    c.ask_and_tell.result.outcome c.ask_and_tell.result.said c.destination-to.ensures
    c.in-Ok-open_socket.ensures.past c.now-start.ensures.past c.ask_and_tell.ensures.past
