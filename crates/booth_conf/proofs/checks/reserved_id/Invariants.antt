use Rattle.std.proofs.Common.{◌≡◌, drop}
use Rattle.booth_conf.specs.Config.{reserved_id}
use Rattle.booth_conf.proofs.FirstLemmas.{given}
use Rattle.booth_conf.proofs.checks.reserved_id.Given as goal

-- the first is that of the places that are left
abbrev pub invariant-loop-place : goal.invariant-loop-place
invariant-loop-place l =
    given reserved_id 0 l.members ≡ given reserved_id l.place (drop l.place l.members)
