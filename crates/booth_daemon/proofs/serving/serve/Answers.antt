use Rattle.booth_node.specs.View.{state_of}
use Rattle.booth_daemon.proofs.ServeLemmas.{ran}
use Rattle.booth_daemon.proofs.serving.serve.Goals as goal

pub returns-in-Ok-clause-past : goal.returns-in-Ok-clause-past
returns-in-Ok-clause-past g c =
    ran c.args.asked.now c.in-Ok.node (state_of c.run_node.new.node) c.run_node.result.outcome c.run_node.result.said
    c.in-Ok.ensures.past c.run_node.ensures.past
