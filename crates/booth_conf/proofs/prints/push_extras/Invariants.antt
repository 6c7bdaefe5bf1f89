use Rattle.std.proofs.Common.{◌≡◌, ◌++◌, map, take}
use Rattle.booth_conf.specs.Print.{entries_text, extra_entry}
use Rattle.booth_conf.proofs.prints.push_extras.Given as goal

abbrev pub invariant-loop-extra : goal.invariant-loop-extra
invariant-loop-extra l =
    l.out.items ≡ l.fn.out.items ++ entries_text (map extra_entry (take l.extra-index l.extras))
