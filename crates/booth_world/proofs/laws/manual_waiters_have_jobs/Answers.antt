use Rattle.booth_world.proofs.WaitingLaws.{manual_waiters_have_jobs}
use Rattle.booth_world.proofs.laws.manual_waiters_have_jobs.Goals as goal

pub returns : goal.returns
returns c = manual_waiters_have_jobs
