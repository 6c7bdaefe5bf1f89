use Rattle.booth_talk.proofs.ReplyLemmas.{replies}
use Rattle.booth_talk.proofs.laws.replies_are_authentic.Goals as goal

pub returns : goal.returns
returns c = replies
