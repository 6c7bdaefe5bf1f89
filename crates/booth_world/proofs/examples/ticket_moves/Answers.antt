use Rattle.booth_world.proofs.ExampleRuns.{three_clocks, three_phases, three_timed, moves, granted_held, renewed_held, elsewhere_held}
use Rattle.booth_world.proofs.examples.ticket_moves.Goals as goal

pub returns-clause-clocks : goal.returns-clause-clocks
returns-clause-clocks c = three_clocks

pub returns-clause-run : goal.returns-clause-run
returns-clause-run c = moves

pub returns-clause-held : goal.returns-clause-held
returns-clause-held c = granted_held

pub returns-clause-renewed : goal.returns-clause-renewed
returns-clause-renewed c = renewed_held

pub returns-clause-elsewhere : goal.returns-clause-elsewhere
returns-clause-elsewhere c = elsewhere_held

pub returns-clause-timed : goal.returns-clause-timed
returns-clause-timed c = three_timed

pub returns-clause-phases : goal.returns-clause-phases
returns-clause-phases c = three_phases
