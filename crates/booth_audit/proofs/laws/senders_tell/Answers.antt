use Rattle.booth_audit.proofs.SendsLemmas.{senders_tell}
use Rattle.booth_audit.proofs.laws.senders_tell.Goals as goal

pub returns : goal.returns
returns c = senders_tell
