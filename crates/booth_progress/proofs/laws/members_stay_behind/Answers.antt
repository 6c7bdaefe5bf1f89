use Rattle.booth_progress.proofs.SessionLemmas.{sessions_stay_behind}
use Rattle.booth_progress.proofs.BehindLemmas.{members_stay_behind}
use Rattle.booth_progress.proofs.TicketLemmas.{tickets_stay_behind}
use Rattle.booth_progress.proofs.TurnLemmas.{turns_stay_behind}
use Rattle.booth_progress.proofs.laws.members_stay_behind.Goals as goal

pub returns-clause-rules : goal.returns-clause-rules
returns-clause-rules c = members_stay_behind

pub returns-clause-tickets : goal.returns-clause-tickets
returns-clause-tickets c = tickets_stay_behind

pub returns-clause-turns : goal.returns-clause-turns
returns-clause-turns c = turns_stay_behind

pub returns-clause-sessions : goal.returns-clause-sessions
returns-clause-sessions c = sessions_stay_behind
