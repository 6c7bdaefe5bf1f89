use Rattle.booth_progress.proofs.SessionLemmas.{sessions_keep_leases}
use Rattle.booth_progress.proofs.LeadingLemmas.{leaders_lead_on}
use Rattle.booth_progress.proofs.TicketLemmas.{tickets_keep_leases}
use Rattle.booth_progress.proofs.TurnLemmas.{turns_keep_leases}
use Rattle.booth_progress.proofs.laws.leaders_lead_on.Goals as goal

pub returns-clause-rules : goal.returns-clause-rules
returns-clause-rules c = leaders_lead_on

pub returns-clause-tickets : goal.returns-clause-tickets
returns-clause-tickets c = tickets_keep_leases

pub returns-clause-turns : goal.returns-clause-turns
returns-clause-turns c = turns_keep_leases

pub returns-clause-sessions : goal.returns-clause-sessions
returns-clause-sessions c = sessions_keep_leases
