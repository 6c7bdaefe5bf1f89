use Rattle.std.proofs.Common.{◌≡◌, drop}
use Rattle.booth_conf.specs.Config.{same_id}
use Rattle.booth_conf.proofs.FirstLemmas.{given}
use Rattle.booth_conf.proofs.checks.clash.Given as goal

-- the first is that of the places that are left
abbrev pub invariant-loop-place : goal.invariant-loop-place
invariant-loop-place l =
    given (same_id l.members) 0 l.members ≡ given (same_id l.members) l.place (drop l.place l.members)
