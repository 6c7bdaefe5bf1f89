use Rattle.std.proofs.Common.{arith}
use Rattle.std.proofs.lemmas.Grind.{common_steps}
use Rattle.booth_conf.proofs.SectionLemmas.{more_some, more_none}
use Rattle.booth_conf.proofs.sections.Section.prereqs.Goals as goal

pub loop-entry-preserved : goal.loop-entry-preserved
loop-entry-preserved c = grind (arith, common_steps, more_some, more_none)
