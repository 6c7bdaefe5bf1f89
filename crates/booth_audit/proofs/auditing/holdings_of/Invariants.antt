use Rattle.std.proofs.Common.{◌≡◌, take}
use Rattle.booth_audit.specs.Judging.{held_by}
use Rattle.booth_audit.proofs.auditing.holdings_of.Given as goal

-- the holdings of the journals so far
abbrev pub invariant-loop-judged : goal.invariant-loop-judged
invariant-loop-judged l = l.held.items ≡ held_by (take l.judged-index l.all)
