use Rattle.std.proofs.Common.{ap, sym}
use Rattle.booth_journal.specs.Looking.{begins_with_open}
use Rattle.booth_audit.proofs.JudgeLemmas.{open_next}
use Rattle.booth_audit.proofs.lines.is_open_next.Goals as goal

pub returns-in-Some : goal.returns-in-Some
returns-in-Some c left says = open_next c.is_open.result (c.in-Some.ensures left says) c.is_open.ensures

pub returns-in-None : goal.returns-in-None
returns-in-None c left says = sym (ap begins_with_open (c.in-None.ensures left says))
