use Rattle.booth_audit.proofs.AnswerLemmas.{audits_have_one_answer}
use Rattle.booth_audit.proofs.laws.audits_have_one_answer.Goals as goal

pub returns : goal.returns
returns c = audits_have_one_answer
