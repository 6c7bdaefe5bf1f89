use Rattle.booth_audit.proofs.JudgeLemmas.{reading_here}
use Rattle.booth_audit.proofs.lines.Lines.reading.Goals as goal

pub returns-in-Ok-Reading : goal.returns-in-Ok-Reading
returns-in-Ok-Reading c left says =
    reading_here (c.in-Some.ensures left says) c.in-Ok-Reading.field-0 c.in-Ok-Reading.reading
    c.in-Ok-Reading.ensures.found c.in-Ok-Reading.field-0-is
