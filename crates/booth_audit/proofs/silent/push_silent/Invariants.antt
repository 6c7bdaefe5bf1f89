use Rattle.std.proofs.Common.{◌≡◌, ◌++◌, drop}
use Rattle.std.specs.Prelude.{map}
use Rattle.booth_audit.specs.Silent.{silent_start}
use Rattle.booth_audit.proofs.silent.push_silent.Given as goal

-- the reads so far, and those that are left
abbrev pub invariant-loop-read : goal.invariant-loop-read
invariant-loop-read l =
    l.silent.items ++ map (silent_start l.journal) (drop l.read-index l.reads)
    ≡ l.fn.silent.items ++ map (silent_start l.journal) l.reads
