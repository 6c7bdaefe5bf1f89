use Rattle.std.proofs.Common.{◌≡◌, take, map}
use Rattle.booth_conf.specs.Config.{ticket_of}
use Rattle.booth_conf.proofs.defaults.tickets.Given as goal

abbrev pub invariant-loop-named : goal.invariant-loop-named
invariant-loop-named l =
    l.tickets.items ≡ map (ticket_of l.defaults) (take l.named-index l.sections)
