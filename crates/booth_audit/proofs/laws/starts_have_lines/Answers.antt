use Rattle.booth_audit.proofs.LineLemmas.{starts_have_lines}
use Rattle.booth_audit.proofs.laws.starts_have_lines.Goals as goal

pub returns : goal.returns
returns c = starts_have_lines
