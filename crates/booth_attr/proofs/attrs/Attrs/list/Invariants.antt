use Rattle.booth_attr.proofs.WalkLemmas.{Listed}
use Rattle.booth_attr.proofs.attrs.Attrs.list.Given as goal

abbrev pub invariant-loop-place : goal.invariant-loop-place
invariant-loop-place l = Listed l.self-inside.chains l.ticket l.initial.into l._place l.next l.into
