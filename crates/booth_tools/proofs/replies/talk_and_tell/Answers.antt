use Rattle.std.proofs.Common.{Ok}
use Rattle.booth_tools.proofs.ClientLemmas.{told, untold}
use Rattle.booth_tools.proofs.replies.talk_and_tell.Goals as goal

pub returns-in-Ok-clause-past : goal.returns-in-Ok-clause-past
returns-in-Ok-clause-past g c =
    told c.args.asking.now c.args.to.now c.args.start (Ok c.in-Ok.last) c.talk.new.room.datagram c.bytes.result.now c.end.result.outcome
    c.end.result.said c.bytes.ensures.value c.in-Ok.ensures.past c.end.ensures.past

pub returns-in-Err-clause-past : goal.returns-in-Err-clause-past
returns-in-Err-clause-past g c =
    untold c.args.asking.now c.args.to.now c.args.start c.in-Err.field-0 c.talk.new.room.datagram c.line_of.result c.line_of.ensures
    c.in-Err.ensures.past
