use Rattle.std.proofs.Common.{◌≡◌, List, take}
use Rattle.std.specs.List.{All}
use Rattle.booth_audit.specs.declared.hearings.Hears.{Hears}
use Rattle.booth_audit.specs.Sends.{IsHeardOf, KnowsAll, Sender}
use Rattle.booth_audit.proofs.sends.Sends.first_unsent.Given as goal

abbrev pub invariant-loop-hears : goal.invariant-loop-hears
invariant-loop-hears l = record {
  same : l.self ≡ l.fn.self;
  sent : (senders : List Sender) → KnowsAll l.fn.self senders
      → All (λ (hears : Hears). IsHeardOf senders hears.bytes) (take l.hears-index l.heard);
}
