use Rattle.booth_outcomes.proofs.UsageLemmas.{complained}
use Rattle.booth_outcomes.proofs.usage.complain.Goals as goal

pub returns-clause-past : goal.returns-clause-past
returns-clause-past g c =
    complained c.args.program c.args.kind c.none.result c.as_bytes.result.now c.err.result c.requires.mistake c.none.ensures c.err.ensures.past
