use Rattle.booth_audit.proofs.JudgeLemmas.{arrivals_here}
use Rattle.booth_audit.proofs.lines.Lines.arrival.Goals as goal

pub returns-in-Ok : goal.returns-in-Ok
returns-in-Ok c left says =
    arrivals_here (c.in-Some.ensures left says) c.in-Ok.answer c.arrived.result c.arrived.new.into c.in-Ok.ensures.found
    c.arrived.ensures
