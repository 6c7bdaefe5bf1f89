use Rattle.std.proofs.Common.{◌≡◌, List, take}
use Rattle.std.specs.List.{All}
use Rattle.booth_audit.specs.Exchanges.{HeardWell}
use Rattle.booth_audit.specs.Sends.{KnowsAll, Sender}
use Rattle.booth_audit.proofs.exchanges.first_unsent.Given as goal

abbrev pub invariant-loop-journal : goal.invariant-loop-journal
invariant-loop-journal l = record {
  same : l.sends ≡ l.fn.sends;
  well : (senders : List Sender) → KnowsAll l.fn.sends senders
      → All (HeardWell senders) (take l.journal l.exchanges);
}
