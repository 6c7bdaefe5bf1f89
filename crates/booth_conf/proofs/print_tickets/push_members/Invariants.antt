use Rattle.std.proofs.Common.{◌≡◌, ◌++◌, map, take}
use Rattle.booth_conf.specs.Print.{lines_text}
use Rattle.booth_conf.specs.declared.settings.Setting.TheVariants.{Member}
use Rattle.booth_conf.proofs.print_tickets.push_members.Given as goal

abbrev pub invariant-loop-member : goal.invariant-loop-member
invariant-loop-member l =
    l.out.items ≡ l.fn.out.items ++ lines_text (map Member (take l.member-index l.members))
