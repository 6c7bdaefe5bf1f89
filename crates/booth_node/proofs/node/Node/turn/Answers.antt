use Rattle.booth_node.specs.View.{node_config, state_of}
use Rattle.booth_node.proofs.TurnLemmas.{went, stopped}
use Rattle.booth_node.proofs.node.Node.turn.Goals as goal

pub returns-in-Went-clause-past : goal.returns-in-Went-clause-past
returns-in-Went-clause-past g c =
    went (node_config c.args.self.now) (node_config c.clamp.new.self) (state_of c.args.self.now)
    (state_of c.clamp.new.self) (state_of c.arrive.new.self)
    c.next-answer.result c.next-answer.new.into c.clamp.new.self.datagram c.now-reading.result
    c.end_of-turn.result c.end_of-turn.ensures
    c.clamp.ensures.state c.clamp.ensures.node c.clamp.ensures.datagram c.next-answer.ensures.past
    c.now-reading.ensures.past c.arrive.ensures.led.grew
    (node_config c.arrive.new.self) (state_of c.expire.new.self) c.in-Went.is c.arrive.ensures.node
    c.arrive.ensures.reading c.expire.ensures.led.grew

pub returns-in-Stopped-clause-past : goal.returns-in-Stopped-clause-past
returns-in-Stopped-clause-past g c =
    stopped (node_config c.args.self.now) (node_config c.clamp.new.self) (state_of c.args.self.now)
    (state_of c.clamp.new.self) (state_of c.arrive.new.self)
    c.next-answer.result c.next-answer.new.into c.clamp.new.self.datagram c.now-reading.result
    c.end_of-turn.result c.end_of-turn.ensures
    c.clamp.ensures.state c.clamp.ensures.node c.clamp.ensures.datagram c.next-answer.ensures.past
    c.now-reading.ensures.past c.arrive.ensures.led.grew
    c.in-Stopped.is
