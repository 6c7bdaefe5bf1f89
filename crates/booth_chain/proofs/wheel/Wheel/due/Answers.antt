use Rattle.std.specs.Prelude.{Some, None}
use Rattle.booth_chain.proofs.DueListLemmas.{drains}
use Rattle.booth_chain.proofs.ReachLemmas.{slot_due, nothing_due}
use Rattle.booth_chain.proofs.wheel.Wheel.due.Goals as goal

pub returns-in-Some-clause-due : goal.returns-in-Some-clause-due
returns-in-Some-clause-due g c =
    slot_due _ c.args.now c.in-Some.found _ _ c.in-Some.ensures.first c.clear.ensures c.ask.ensures

pub returns-in-None-clause-due : goal.returns-in-None-clause-due
returns-in-None-clause-due g c =
    nothing_due _ c.args.now _ c.in-None.ensures.first c.sweep.ensures

pub returns-in-Some-clause-in_order : goal.returns-in-Some-clause-in_order
returns-in-Some-clause-in_order g c =
    drains _ c.args.now (Some c.in-Some.found.slot) _ (returns-in-Some-clause-due g c)

pub returns-in-None-clause-in_order : goal.returns-in-None-clause-in_order
returns-in-None-clause-in_order g c =
    drains _ c.args.now None _ (returns-in-None-clause-due g c)
