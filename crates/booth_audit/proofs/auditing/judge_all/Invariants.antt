use Rattle.std.specs.Option.{option_copied}
use Rattle.std.proofs.Common.{take}
use Rattle.booth_audit.specs.Judging.{AreTrueSo}
use Rattle.booth_audit.proofs.auditing.judge_all.Given as goal

-- the journals so far are true
abbrev pub invariant-loop-journal : goal.invariant-loop-journal
invariant-loop-journal l = AreTrueSo l.config (option_copied l.ring) (take l.journal l.journals) l.all.items
