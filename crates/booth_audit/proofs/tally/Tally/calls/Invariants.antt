use Rattle.std.proofs.Common.{◌≡◌, ◌+◌, ◌*◌, drop}
use Rattle.booth_audit.specs.Tally.{tallied_all}
use Rattle.booth_audit.specs.Turns.{events_from}
use Rattle.booth_audit.proofs.tally.Tally.calls.Given as goal

abbrev pub invariant-loop-entry : goal.invariant-loop-entry
invariant-loop-entry l = record {
  at_line : l.at ≡ l.line + 2 * l.entry-index;
  so_far : tallied_all l.whose l.self (events_from l.at (drop l.entry-index l.entries))
      ≡ tallied_all l.whose l.fn.self (events_from l.line l.entries);
}
