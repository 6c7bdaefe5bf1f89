use Rattle.booth_audit.proofs.WatchedLemmas.{watch_tells_unwritten}
use Rattle.booth_audit.proofs.laws.watch_tells_unwritten.Goals as goal

pub returns : goal.returns
returns c = watch_tells_unwritten
