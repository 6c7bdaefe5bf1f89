use Rattle.std.proofs.Common.{◌∙◌}
use Rattle.booth_talk.proofs.TalkLemmas.{asked}
use Rattle.booth_talk.proofs.talking.ask.Goals as goal

pub returns-in-Ok-clause-past : goal.returns-in-Ok-clause-past
returns-in-Ok-clause-past g c =
    asked c.args.asking.now c.args.to.now c.args.start c.bytes.result.now c.wait.result c.wait.new.datagram
    c.in-Ok.ensures.past (c.bytes.ensures.value ∙ c.put_request.ensures) c.wait.ensures.past
