use Rattle.std.proofs.Common.{take}
use Rattle.booth_sim.specs.Turning.{Sees}
use Rattle.booth_sim.proofs.turn.count_all.Given as goal

abbrev pub invariant-loop-deed : goal.invariant-loop-deed
invariant-loop-deed l =
    Sees l.config l.from (take l.deed-index l.deeds) l.fn.kept l.kept l.fn.frames l.frames l.fn.summary l.summary
