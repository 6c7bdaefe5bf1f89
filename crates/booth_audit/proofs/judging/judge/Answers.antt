use Rattle.booth_journal.proofs.SaysLemmas.{journals_say_calls}
use Rattle.booth_audit.proofs.judging.judge.Goals as goal

pub judge_lines-requires-clause-says : goal.judge_lines-requires-clause-says
judge_lines-requires-clause-says c = journals_say_calls c.args.text.now c.in-Ok.ensures.journal
