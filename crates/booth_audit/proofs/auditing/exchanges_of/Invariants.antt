use Rattle.std.proofs.Common.{◌≡◌, ◌≤◌, length, take}
use Rattle.std.specs.Prelude.{vec_capacity}
use Rattle.booth_audit.specs.Judging.{AreExchanges}
use Rattle.booth_audit.proofs.auditing.exchanges_of.Given as goal

-- what the journals so far sent and heard
abbrev pub invariant-loop-judged : goal.invariant-loop-judged
invariant-loop-judged l = record {
  count : length l.exchanges.items ≡ l.judged-index;
  room : length l.all ≤ vec_capacity l.exchanges;
  are : AreExchanges l.config.members (take l.judged-index l.all) l.exchanges.items;
}
