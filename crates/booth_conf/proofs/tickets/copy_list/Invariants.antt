use Rattle.std.proofs.Common.{◌≡◌, take}
use Rattle.booth_conf.proofs.tickets.copy_list.Given as goal

abbrev pub invariant-loop-prereq : goal.invariant-loop-prereq
invariant-loop-prereq l = l.copied.items ≡ take l.prereq-index l.prereqs
