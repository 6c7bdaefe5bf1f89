use Rattle.std.proofs.Common.{Ok}
use Rattle.booth_talk.specs.Parts.{text_of}
use Rattle.booth_tools.proofs.ClientLemmas.{list_told, list_untold}
use Rattle.booth_tools.proofs.lists.list_and_tell.Goals as goal

pub returns-in-Ok-clause-past : goal.returns-in-Ok-clause-past
returns-in-Ok-clause-past g c =
    list_told c.args.asking.now c.args.to.now c.args.start (Ok c.in-Ok.listed) (text_of c.talk_list.new.room.parts) c.end.result.outcome
    c.end.result.said c.in-Ok.ensures.past c.end.ensures.past

pub returns-in-Err-clause-past : goal.returns-in-Err-clause-past
returns-in-Err-clause-past g c =
    list_untold c.args.asking.now c.args.to.now c.args.start c.in-Err.field-0 (text_of c.talk_list.new.room.parts) c.line_of.result c.line_of.ensures
    c.in-Err.ensures.past
