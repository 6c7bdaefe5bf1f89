use Rattle.booth_node.specs.Replies.{list_lines}
use Rattle.booth_node.proofs.ListLemmas.{Taken}
use Rattle.booth_node.proofs.lists.write_part.Given as goal

abbrev pub invariant-loop-place : goal.invariant-loop-place
invariant-loop-place l = record { taken : Taken (list_lines l.node l.now l.tickets) l.place l.text }
