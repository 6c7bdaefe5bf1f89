use Rattle.std.proofs.Common.{arith}
use Rattle.std.proofs.lemmas.Grind.{common_steps}
use Rattle.booth_host.proofs.memory.MemoryHost.forget.Goals as goal

pub returns-clause-past : goal.returns-clause-past
returns-clause-past c = grind (arith, common_steps)

pub returns-clause-to_come : goal.returns-clause-to_come
returns-clause-to_come c = grind (arith, common_steps)

pub returns-clause-begun : goal.returns-clause-begun
returns-clause-begun c = grind (arith, common_steps)

pub returns-clause-script : goal.returns-clause-script
returns-clause-script c = grind (arith, common_steps)
