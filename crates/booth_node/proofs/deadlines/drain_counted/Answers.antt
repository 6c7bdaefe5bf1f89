use Rattle.std.proofs.Common.{ap, ◌∙◌, length}
use Rattle.std.proofs.lemmas.List.{length-map}
use Rattle.booth_chain.specs.Draining.{undue}
use Rattle.booth_chain.specs.Wheel.{Timer}
use Rattle.booth_node.proofs.deadlines.drain_counted.Goals as goal

pub returns-clause-slots : goal.returns-clause-slots
returns-clause-slots g c =
    ap (λ (t : Timer). length t.deadlines) c.drain.ensures.left
    ∙ length-map c.args.wheel.now.deadlines (undue c.args.now)

pub returns-clause-last : goal.returns-clause-last
returns-clause-last g c = ap (λ (t : Timer). t.last) c.drain.ensures.left
