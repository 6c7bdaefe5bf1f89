use Rattle.std.proofs.Common.{◌≡◌, take}
use Rattle.booth_daemon.specs.Auditing.{silents_text}
use Rattle.booth_daemon.proofs.report_text.silents_text.Given as goal

abbrev pub invariant-loop-start : goal.invariant-loop-start
invariant-loop-start l = l.text.items ≡ silents_text l.config l.paths (take l.start-index l.starts)
