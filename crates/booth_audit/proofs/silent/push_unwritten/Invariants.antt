use Rattle.std.proofs.Common.{◌≡◌, ◌++◌, drop}
use Rattle.std.specs.Prelude.{length}
use Rattle.booth_audit.specs.Silent.{unwritten_from}
use Rattle.booth_audit.proofs.silent.push_unwritten.Given as goal

-- the reads so far, and those that are left
abbrev pub invariant-loop-ticket : goal.invariant-loop-ticket
invariant-loop-ticket l =
    l.reads.items ++ unwritten_from l.all (length l.records) l.last l.ticket (drop l.ticket l.records)
    ≡ l.fn.reads.items ++ unwritten_from l.all (length l.records) l.last 0 l.records
