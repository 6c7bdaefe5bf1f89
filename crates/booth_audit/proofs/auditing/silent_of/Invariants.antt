use Rattle.std.proofs.Common.{◌≡◌, ◌++◌, drop}
use Rattle.booth_audit.specs.Judging.{silent_by}
use Rattle.booth_audit.proofs.auditing.silent_of.Given as goal

-- the silent starts of the journals so far, and of those that are left
abbrev pub invariant-loop-journal : goal.invariant-loop-journal
invariant-loop-journal l = l.silent.items ++ silent_by l.journal (drop l.journal l.all) ≡ silent_by 0 l.all
