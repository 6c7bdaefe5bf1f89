use Rattle.booth_progress.proofs.OpeningLemmas.{leaders_open_rounds}
use Rattle.booth_progress.proofs.SpeakingLemmas.{tickets_speak}
use Rattle.booth_progress.proofs.TurnSpeakingLemmas.{turns_speak}
use Rattle.booth_progress.proofs.laws.leaders_open_rounds.Goals as goal

pub returns-clause-rules : goal.returns-clause-rules
returns-clause-rules c = leaders_open_rounds

pub returns-clause-tickets : goal.returns-clause-tickets
returns-clause-tickets c = tickets_speak

pub returns-clause-turns : goal.returns-clause-turns
returns-clause-turns c = turns_speak
