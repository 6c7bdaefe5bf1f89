use Rattle.booth_journal.proofs.LookLemmas.{looked_with, looked_without, none_left}
use Rattle.booth_journal.proofs.looking.look.Goals as goal

pub returns-in_default : goal.returns-in_default
returns-in_default c = none_left c.args.text.now c.in_default.ensures

pub returns-in-Some-answer_of : goal.returns-in-Some-answer_of
returns-in-Some-answer_of c =
    looked_with c.args.text.now c.in-Some.call.now c.in-Some.more.now c.in-Some-answer_of.answer.now
    c.in-Some-answer_of.behind.now c.in-Some.ensures c.in-Some-answer_of.ensures.0 c.in-Some-answer_of.ensures.1

pub returns-in-None : goal.returns-in-None
returns-in-None c =
    looked_without c.args.text.now c.in-Some.call.now c.in-Some.more.now c.in-Some.ensures c.in-None.ensures
