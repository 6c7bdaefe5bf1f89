use Rattle.std.proofs.Common.{◌≡◌, ◌++◌, map, take}
use Rattle.booth_conf.specs.Print.{entries_text, prereq_entry}
use Rattle.booth_conf.proofs.print_tickets.push_prereqs.Given as goal

abbrev pub invariant-loop-prereq : goal.invariant-loop-prereq
invariant-loop-prereq l =
    l.out.items ≡ l.fn.out.items ++ entries_text (map prereq_entry (take l.prereq-index l.prereqs))
