use Rattle.booth_sim.proofs.Worlds.{are_worlds}
use Rattle.booth_sim.proofs.laws.simulations_are_worlds.Goals as goal

pub returns : goal.returns
returns c =
    are_worlds c.crc_is_the_remainder.ensures c.clients_are_answered.ensures c.others_are_not_answered.ensures c.opens_with_its_tickets.ensures c.keeps_its_tickets.ensures
