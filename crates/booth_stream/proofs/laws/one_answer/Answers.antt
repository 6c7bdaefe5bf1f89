use Rattle.booth_stream.proofs.AnswerLemmas.{one_answer}
use Rattle.booth_stream.proofs.laws.one_answer.Goals as goal

pub returns : goal.returns
returns c = one_answer
