use Rattle.std.proofs.Common.{take}
use Rattle.booth_audit.specs.Sends.{KnowsMore}
use Rattle.booth_audit.proofs.sends.Sends.read_all.Given as goal

abbrev pub invariant-loop-bytes : goal.invariant-loop-bytes
invariant-loop-bytes l = KnowsMore l.fn.self l.id (take l.bytes-index l.sent) l.self
