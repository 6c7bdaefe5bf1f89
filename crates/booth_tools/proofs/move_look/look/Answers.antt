use Rattle.booth_talk.specs.Parts.{text_of}
use Rattle.booth_tools.proofs.MoveLemmas.{look_settled, not_looked}
use Rattle.booth_tools.proofs.move_look.look.Goals as goal

pub returns-in-Ok-clause-past : goal.returns-in-Ok-clause-past
returns-in-Ok-clause-past g c =
    look_settled c.args.asked.now c.args.asking.now c.target_peer-to.result c.target_peer-to.ensures c.now-start.result c.in-Ok.listed (text_of c.talk_list.new.room.parts) c.judged.result
    c.now-start.ensures.past c.in-Ok.ensures.past c.judged.ensures.past

pub returns-in-Err-clause-past : goal.returns-in-Err-clause-past
returns-in-Err-clause-past g c =
    not_looked c.args.asked.now c.args.asking.now c.target_peer-to.result c.target_peer-to.ensures c.now-start.result c.in-Err.field-0 (text_of c.talk_list.new.room.parts) c.line_of.result
    c.line_of.ensures c.now-start.ensures.past c.in-Err.ensures.past
