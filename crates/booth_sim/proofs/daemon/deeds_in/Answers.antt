-- The calls are a next, a reading and the deeds.
use Rattle.booth_sim.proofs.Turned.{met_in}
use Rattle.booth_sim.proofs.daemon.deeds_in.Goals as goal

pub returns-then-deeds-clause-met : goal.returns-then-deeds-clause-met
returns-then-deeds-clause-met c =
    met_in c.in_ok-next.ensures.cases.0 c.in_ok-now.ensures.cases.0 (c.brought.ensures c.if-brought.true)
    (c.is_reading.ensures c.if-is_reading.true) (c.are_answered.ensures c.if-are_answered.true)
