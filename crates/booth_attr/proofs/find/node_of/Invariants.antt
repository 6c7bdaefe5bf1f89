use Rattle.booth_attr.proofs.WalkLemmas.{Searched}
use Rattle.booth_attr.proofs.find.node_of.Given as goal

abbrev pub invariant-loop-place : goal.invariant-loop-place
invariant-loop-place l = Searched l.chains l.ticket l.name l._place l.next
