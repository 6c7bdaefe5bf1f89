use Rattle.booth_host.specs.Told.{told_past}
use Rattle.booth_node.specs.View.{node_config, state_of}
use Rattle.booth_audit.proofs.TurnedLemmas.{turned_parts}
use Rattle.booth_audit.proofs.replaying.turn_over.Goals as goal

pub returns-clause-turned : goal.returns-clause-turned
returns-clause-turned g c left says =
    turned_parts c.args.text.now g.J.ReplayedText.text c.args.line g.J.ReplayedText.line
    (node_config c.args.node.now) (state_of c.args.node.now) (state_of c.turn-turn.new.self) c.turn-turn.result
    c.new-host.result c.turn-turn.new.host c.rest-rest.result.now c.line-line.result c.end-end.result
    (told_past c.into_parts-told.result.0) c.requires.text c.requires.line c.rest-rest.ensures c.line-line.ensures
    c.end-end.ensures.end c.into_parts-told.ensures c.new-host.ensures.past c.turn-turn.ensures.past
    c.if-not-tells.ensures c.end-end.ensures.sound left says
