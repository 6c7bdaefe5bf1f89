use Rattle.std.proofs.Common.{◌≡◌, ◌++◌, drop}
use Rattle.booth_audit.specs.Noted.{held_from}
use Rattle.booth_audit.proofs.notes.push_records.Given as goal

abbrev pub invariant-loop-ticket : goal.invariant-loop-ticket
invariant-loop-ticket l =
    l.held.items ++ held_from l.ticket l.member l.from (drop l.ticket l.records)
    ≡ l.fn.held.items ++ held_from 0 l.member l.from l.records
