use Rattle.std.proofs.Common.{◌≡◌, map, take}
use Rattle.booth_move.specs.Move.{id_number}
use Rattle.booth_move.proofs.mover.ids_of.Given as goal

abbrev pub invariant-loop-member : goal.invariant-loop-member
invariant-loop-member l = l.ids.items ≡ map id_number (take l.member-index l.members)
