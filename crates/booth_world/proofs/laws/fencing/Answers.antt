use Rattle.booth_world.proofs.TermWorlds.{told_terms_are_gained, worlds_have_fencing_terms}
use Rattle.booth_world.proofs.FencedLives.{lives_have_terms}
use Rattle.booth_world.proofs.FencedLaws.{gained_have_phases, terms_of_one, later_askers, later_rounds}
use Rattle.booth_world.proofs.laws.fencing.Goals as goal

pub returns-clause-phases : goal.returns-clause-phases
returns-clause-phases c = gained_have_phases

pub returns-clause-terms : goal.returns-clause-terms
returns-clause-terms c = terms_of_one

pub returns-clause-askers : goal.returns-clause-askers
returns-clause-askers c = later_askers

pub returns-clause-rounds : goal.returns-clause-rounds
returns-clause-rounds c = later_rounds

pub returns-clause-lives : goal.returns-clause-lives
returns-clause-lives c = lives_have_terms

pub returns-clause-worlds : goal.returns-clause-worlds
returns-clause-worlds c = worlds_have_fencing_terms

pub returns-clause-told : goal.returns-clause-told
returns-clause-told c = told_terms_are_gained
