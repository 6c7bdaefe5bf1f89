use Rattle.std.proofs.Common.{codes}
use Rattle.std.proofs.lemmas.Str.Pattern.{ends_text}
use Rattle.booth_cli.proofs.reading.has_ending.Goals as goal

pub returns : goal.returns
returns c = ends_text c.ends_with.result (codes ".conf") c.args.word.now c.ends_with.ensures.cases
