use Rattle.booth_audit.proofs.WatchedLemmas.{watch_tells_first}
use Rattle.booth_audit.proofs.laws.watch_tells_first.Goals as goal

pub returns : goal.returns
returns c = watch_tells_first
