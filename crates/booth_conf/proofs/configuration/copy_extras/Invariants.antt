use Rattle.std.proofs.Common.{◌≡◌, take}
use Rattle.booth_conf.proofs.configuration.copy_extras.Given as goal

abbrev pub invariant-loop-extra : goal.invariant-loop-extra
invariant-loop-extra l = l.copied.items ≡ take l.extra-index l.extras
