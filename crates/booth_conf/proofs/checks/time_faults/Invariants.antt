use Rattle.std.proofs.Common.{◌≡◌, drop}
use Rattle.booth_conf.specs.Config.{time_fault}
use Rattle.booth_conf.proofs.FirstLemmas.{given}
use Rattle.booth_conf.proofs.checks.time_faults.Given as goal

-- the first is that of the places that are left
abbrev pub invariant-loop-place : goal.invariant-loop-place
invariant-loop-place l =
    given time_fault 0 l.tickets ≡ given time_fault l.place (drop l.place l.tickets)
