use Rattle.booth_followers.proofs.ServiceLemmas.{no_room}
use Rattle.booth_followers.proofs.service.set_out.Goals as goal

pub returns-in_default-clause-past : goal.returns-in_default-clause-past
returns-in_default-clause-past g c =
    no_room c.args.setting.now.left c.args.asked c.args.config c.args.ring c.args.margins c.out_of_memory.result c.out_of_memory.ensures.outcome
    c.out_of_memory.ensures.said

pub returns-in_default-new-clause-past : goal.returns-in_default-new-clause-past
returns-in_default-new-clause-past g c =
    no_room c.args.setting.now.left c.args.asked c.args.config c.args.ring c.args.margins c.out_of_memory-in_default-new.result
    c.out_of_memory-in_default-new.ensures.outcome c.out_of_memory-in_default-new.ensures.said
