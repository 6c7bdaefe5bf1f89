use Rattle.booth_services.proofs.RunLemmas.{it_is_run, it_is_world, it_is_second, it_is_held, it_is_session}
use Rattle.booth_services.proofs.examples.boothd_runs_in_a_world.Goals as goal

pub returns-clause-run : goal.returns-clause-run
returns-clause-run c = it_is_run

pub returns-clause-world : goal.returns-clause-world
returns-clause-world c = it_is_world

pub returns-clause-second : goal.returns-clause-second
returns-clause-second c = it_is_second

pub returns-clause-holds : goal.returns-clause-holds
returns-clause-holds c = it_is_held

pub returns-clause-session : goal.returns-clause-session
returns-clause-session c = it_is_session
