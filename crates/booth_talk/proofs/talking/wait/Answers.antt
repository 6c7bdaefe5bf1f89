use Rattle.booth_talk.proofs.TalkLemmas.{waited}
use Rattle.booth_talk.proofs.talking.wait.Goals as goal

pub returns-clause-past : goal.returns-clause-past
returns-clause-past g c =
    waited c.args.asking.now c.args.start c.wait_first-first.result c.wait_first-first.new.datagram c.go_on.result c.go_on.new.datagram
    c.wait_first-first.ensures.past c.go_on.ensures.past
