use Rattle.std.specs.Prelude.{Ok, Err}
use Rattle.booth_audit.proofs.JudgeLemmas.{done_here}
use Rattle.booth_audit.proofs.lines.Lines.done.Goals as goal

pub returns-in-Ok-Done : goal.returns-in-Ok-Done
returns-in-Ok-Done c left says =
    done_here (c.in-Some.ensures left says) c.in-Ok-Done.field-0 (Ok tt) c.in-Ok-Done.ensures.found c.in-Ok-Done.field-0-is

pub returns-in-Ok-Fails : goal.returns-in-Ok-Fails
returns-in-Ok-Fails c left says =
    done_here (c.in-Some.ensures left says) c.in-Ok-Fails.field-0 (Err (record {})) c.in-Ok-Fails.ensures.found
    c.in-Ok-Fails.field-0-is
