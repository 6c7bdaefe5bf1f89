use Rattle.std.proofs.Common.{take}
use Rattle.booth_audit.specs.Exchanges.{senders_in}
use Rattle.booth_audit.specs.Sends.{KnowsAll}
use Rattle.booth_audit.proofs.exchanges.sends_of.Given as goal

abbrev pub invariant-loop-exchange : goal.invariant-loop-exchange
invariant-loop-exchange l = KnowsAll l.sends (senders_in (take l.exchange-index l.exchanges))
