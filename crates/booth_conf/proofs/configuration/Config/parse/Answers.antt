use Rattle.std.proofs.Common.{arith}
use Rattle.std.proofs.lemmas.Grind.{common_steps}
use Rattle.booth_conf.proofs.ParseLemmas.{complete_parses, read_parses}
use Rattle.booth_conf.proofs.configuration.Config.parse.Goals as goal

pub returns-in-Ok : goal.returns-in-Ok
returns-in-Ok c = grind (arith, common_steps, complete_parses, read_parses)

pub returns-in-Err : goal.returns-in-Err
returns-in-Err c = grind (arith, common_steps, complete_parses, read_parses)
