use Rattle.booth_progress.proofs.RenewingLemmas.{renewals_succeed}
use Rattle.booth_progress.proofs.WinningSessions.{sessions_win}
use Rattle.booth_progress.proofs.laws.renewals_succeed.Goals as goal

pub returns-clause-rules : goal.returns-clause-rules
returns-clause-rules c = renewals_succeed

pub returns-clause-sessions : goal.returns-clause-sessions
returns-clause-sessions c = sessions_win
