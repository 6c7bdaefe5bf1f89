use Rattle.std.specs.Option.{option_copied}
use Rattle.std.proofs.Common.{ap, ◌∙◌}
use Rattle.booth_node.specs.Opening.{opened}
use Rattle.booth_node.specs.declared.node_config.NodeConfig.{NodeConfig}
use Rattle.booth_audit.proofs.WhoseLemmas.{same_node}
use Rattle.booth_audit.proofs.whose.Whose.open.Goals as goal

pub returns-clause-node : goal.returns-clause-node
returns-clause-node c =
    c.in_ok-node.ensures.node
    ∙ same_node c.args.self.now c.in_ok-config.config c.self.inside.config.now c.copied_ring-ring.result
    (option_copied c.self.inside.ring) c.self.inside.me c.self.inside.place c.self.view_is c.in_ok-config.ensures
    c.copied_ring-ring.ensures

pub returns-clause-state : goal.returns-clause-state
returns-clause-state c =
    c.in_ok-node.ensures.state
    ∙ ap (λ (n : NodeConfig). opened n c.args.records.now c.args.reading)
    (same_node c.args.self.now c.in_ok-config.config c.self.inside.config.now c.copied_ring-ring.result
    (option_copied c.self.inside.ring) c.self.inside.me c.self.inside.place c.self.view_is c.in_ok-config.ensures
    c.copied_ring-ring.ensures)
