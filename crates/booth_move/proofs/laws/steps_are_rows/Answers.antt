use Rattle.booth_move.proofs.LawLemmas.{all_rows}
use Rattle.booth_move.proofs.laws.steps_are_rows.Goals as goal

pub returns : goal.returns
returns c = all_rows
