use Rattle.std.proofs.Common.{Ok}
use Rattle.booth_talk.proofs.TalkLemmas.{not_sent, talked}
use Rattle.booth_talk.proofs.talking.talk.Goals as goal

pub returns-in-Ok-clause-past : goal.returns-in-Ok-clause-past
returns-in-Ok-clause-past g c =
    talked c.args.asking.now c.args.to.now c.args.start (Ok c.in-Ok.first) c.ask.new.room.datagram c.ask_on.result c.ask_on.new.room.datagram
    c.in-Ok.ensures.past c.ask_on.ensures.past

pub returns-in-Err-clause-past : goal.returns-in-Err-clause-past
returns-in-Err-clause-past g c =
    not_sent c.args.asking.now c.args.to.now c.args.start c.in-Err.failed c.ask.new.room.datagram c.in-Err.ensures.past
