use Rattle.std.proofs.Common.{sym}
use Rattle.booth_tools.proofs.ClientLemmas.{has_site}
use Rattle.booth_tools.proofs.client.first_site.Goals as goal

pub unreachable-requires : goal.unreachable-requires
unreachable-requires c =
    has_site c.args.config.now.members c.args.config.now.tickets c.requires (sym c.in-None.ensures)
