use Rattle.booth_world.proofs.TellerWorlds.{claims_last, grants_are_kept, tellers_are_apart, who_tells_has_kept, who_tells_holds}
use Rattle.booth_world.proofs.laws.tellers.Goals as goal

pub returns-clause-kept : goal.returns-clause-kept
returns-clause-kept c = who_tells_has_kept

pub returns-clause-granted : goal.returns-clause-granted
returns-clause-granted c = grants_are_kept

pub returns-clause-holds : goal.returns-clause-holds
returns-clause-holds c = who_tells_holds

pub returns-clause-apart : goal.returns-clause-apart
returns-clause-apart c = tellers_are_apart

pub returns-clause-last : goal.returns-clause-last
returns-clause-last c = claims_last
