use Rattle.booth_tools.proofs.ClientLemmas.{read_both}
use Rattle.booth_tools.proofs.client.read_cluster.Goals as goal

pub returns-clause-past : goal.returns-clause-past
returns-clause-past g c =
    read_both c.args.path.now c.in_ok-config.config c.with_key.result c.in_ok-config.ensures.past c.with_key.ensures.past
