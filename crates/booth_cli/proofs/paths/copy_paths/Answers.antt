use Rattle.booth_cli.proofs.ReadingLemmas.{refused_at}
use Rattle.booth_cli.proofs.paths.copy_paths.Goals as goal

pub returns-in_default : goal.returns-in_default
returns-in_default c = refused_at c.args.words.now c.loop-word.word-index _ c.loop-word-test.true c.in_default.ensures
