use Rattle.std.specs.Prelude.{None, Some, Ok, Err}
use Rattle.booth_audit.proofs.JudgeLemmas.{found_here}
use Rattle.booth_audit.proofs.lines.Lines.record.Goals as goal

pub returns-in-Ok-Absent : goal.returns-in-Ok-Absent
returns-in-Ok-Absent c left says =
    found_here (c.in-Some.ensures left says) c.in-Ok-Absent.field-0 (Ok None) c.in-Ok-Absent.ensures.found
    c.in-Ok-Absent.field-0-is

pub returns-in-Ok-Found : goal.returns-in-Ok-Found
returns-in-Ok-Found c left says =
    found_here (c.in-Some.ensures left says) c.in-Ok-Found.field-0 (Ok (Some c.in-Ok-Found.kept))
    c.in-Ok-Found.ensures.found c.in-Ok-Found.field-0-is

pub returns-in-Ok-Fails : goal.returns-in-Ok-Fails
returns-in-Ok-Fails c left says =
    found_here (c.in-Some.ensures left says) c.in-Ok-Fails.field-0 (Err (record {})) c.in-Ok-Fails.ensures.found
    c.in-Ok-Fails.field-0-is
