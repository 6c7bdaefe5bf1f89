use Rattle.booth_conf.proofs.OneAnswers.{one_answer}
use Rattle.booth_conf.proofs.laws.one_answer.Goals as goal

pub returns : goal.returns
returns c = one_answer
