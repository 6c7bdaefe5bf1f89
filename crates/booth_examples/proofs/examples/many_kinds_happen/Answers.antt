use Rattle.booth_examples.proofs.WorldRuns.{many_is_world, all_begin_in_second, held_by_coming, held_by_failed, held_by_cut}
use Rattle.booth_examples.proofs.TellingRuns.{handler_is_told}
use Rattle.booth_examples.proofs.examples.many_kinds_happen.Goals as goal

pub returns-clause-world : goal.returns-clause-world
returns-clause-world c = many_is_world

pub returns-clause-second : goal.returns-clause-second
returns-clause-second c = all_begin_in_second

pub returns-clause-coming : goal.returns-clause-coming
returns-clause-coming c = held_by_coming

pub returns-clause-failed : goal.returns-clause-failed
returns-clause-failed c = held_by_failed

pub returns-clause-cut : goal.returns-clause-cut
returns-clause-cut c = held_by_cut

pub returns-clause-handler : goal.returns-clause-handler
returns-clause-handler c = handler_is_told
