use Rattle.std.proofs.Common.{List, length}
use Rattle.booth_journal.specs.Says.{Said, Says}
use Rattle.booth_audit.proofs.OwnerLemmas.{IsSeen}
use Rattle.booth_audit.proofs.owners.owner.Given as goal

-- the calls so far are those of this owner, and these bytes are left
abbrev pub invariant-calls : goal.invariant-calls
invariant-calls l = (all : List Said) → Says l.fn.text all → IsSeen l.config.members l.owner l.rest all

abbrev pub decreases-calls : goal.decreases-calls
decreases-calls l = length l.rest
