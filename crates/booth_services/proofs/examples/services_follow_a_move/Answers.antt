use Rattle.booth_services.proofs.ServiceRuns.{defaults_are, first_follows, first_serves, first_stops, moved_is_second, moved_is_world, never_both, next_follows, next_serves, next_stops, served_is_automatic}
use Rattle.booth_services.proofs.examples.services_follow_a_move.Goals as goal

pub returns-clause-world : goal.returns-clause-world
returns-clause-world c = moved_is_world

pub returns-clause-second : goal.returns-clause-second
returns-clause-second c = moved_is_second

pub returns-clause-automatic : goal.returns-clause-automatic
returns-clause-automatic c = served_is_automatic

pub returns-clause-margins : goal.returns-clause-margins
returns-clause-margins c = defaults_are

pub returns-clause-first : goal.returns-clause-first
returns-clause-first c = first_follows

pub returns-clause-next : goal.returns-clause-next
returns-clause-next c = next_follows

pub returns-clause-first_serves : goal.returns-clause-first_serves
returns-clause-first_serves c = first_serves

pub returns-clause-next_serves : goal.returns-clause-next_serves
returns-clause-next_serves c = next_serves

pub returns-clause-first_stops : goal.returns-clause-first_stops
returns-clause-first_stops c = first_stops

pub returns-clause-next_stops : goal.returns-clause-next_stops
returns-clause-next_stops c = next_stops

pub returns-clause-apart : goal.returns-clause-apart
returns-clause-apart c = never_both
