use Rattle.std.proofs.Common.{subst}
use Rattle.booth_tools.specs.Client.{IsMemoryFor}
use Rattle.booth_tools.proofs.ClientLemmas.{told_list, told_talk}
use Rattle.booth_tools.proofs.replies.ask_and_tell.Goals as goal

pub returns-in-List-clause-past : goal.returns-in-List-clause-past
returns-in-List-clause-past g c =
    told_list c.args.asking.now c.args.to.now c.args.start c.list_and_tell.result.outcome c.list_and_tell.result.said
    (subst (λ m. IsMemoryFor c.args.asking.now.order m) c.in-List.is c.requires).0 c.list_and_tell.ensures.past

pub returns-in-Talk-clause-past : goal.returns-in-Talk-clause-past
returns-in-Talk-clause-past g c =
    told_talk c.args.asking.now c.args.to.now c.args.start c.talk_and_tell.result.outcome c.talk_and_tell.result.said
    (subst (λ m. IsMemoryFor c.args.asking.now.order m) c.in-Talk.is c.requires) c.talk_and_tell.ensures.past
