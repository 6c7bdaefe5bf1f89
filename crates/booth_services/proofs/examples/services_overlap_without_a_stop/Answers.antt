use Rattle.booth_services.proofs.ServiceRuns.{gave_back, next_follows, next_serves, other_follows, other_serves}
use Rattle.booth_services.proofs.examples.services_overlap_without_a_stop.Goals as goal

pub returns-clause-first : goal.returns-clause-first
returns-clause-first c = other_follows

pub returns-clause-next : goal.returns-clause-next
returns-clause-next c = next_follows

pub returns-clause-first_serves : goal.returns-clause-first_serves
returns-clause-first_serves c = other_serves

pub returns-clause-next_serves : goal.returns-clause-next_serves
returns-clause-next_serves c = next_serves

pub returns-clause-released : goal.returns-clause-released
returns-clause-released c = gave_back
