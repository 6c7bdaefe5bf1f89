use Rattle.std.proofs.Common.{sym, ◌∙◌}
use Rattle.booth_node.proofs.ActLemmas.{said_to}
use Rattle.booth_node.proofs.hands.NodeHands.say_written.Goals as goal

pub returns-clause-led : goal.returns-clause-led
returns-clause-led g c =
    let self = c.args.self.now in
    said_to self.node.now self.now self.name.now self.common.now _ c.args.to c.args.head.now c.args.part.now
    c.in-Some.peer self.frame.now c.send.result (sym c.peer_of.ensures ∙ c.in-Some.is) c.requires.written
    c.requires.fits c.send.ensures.past c.send.ensures.later c.send.ensures.common
