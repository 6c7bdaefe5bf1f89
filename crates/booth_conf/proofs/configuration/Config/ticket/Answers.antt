use Rattle.std.proofs.Common.{ap, ◌∙◌, position}
use Rattle.std.specs.Prelude.{bytes_eq}
use Rattle.booth_conf.proofs.PlaceLemmas.{position_named}
use Rattle.booth_conf.proofs.configuration.Config.ticket.Goals as goal

pub returns : goal.returns
returns c =
    rw (← c.self.view_is) (c.get_index_of.ensures.index ∙ ap (position (bytes_eq c.args.name.now)) c.self.invariant.0 ∙ position_named c.args.name.now c.self.inside.tickets.items)
