use Rattle.booth_wire.proofs.FrameLemmas.{signed_frame}
use Rattle.booth_wire.proofs.laws.signing_changes_no_more.Goals as goal

pub returns : goal.returns
returns c = signed_frame
