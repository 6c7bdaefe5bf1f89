-- The calls of a turn, each answered as it is to be.
use Rattle.std.proofs.Common.{Bool, List, [], ◌∷◌, All}
use Rattle.std.proofs.lemmas.List.Elements.{All-head, All-tail}
use Rattle.booth_host.specs.declared.entry.Entry.{Entry}
use Rattle.booth_sim.specs.Simulation.{AreAnswered, IsAnswered}

pub all_answered : (fails : Bool) (calls : List Entry) → All (IsAnswered fails) calls → AreAnswered fails calls
all_answered fails [] all = tt
all_answered fails (call ∷ calls) all =
    (All-head (IsAnswered fails) call calls all, all_answered fails calls (All-tail (IsAnswered fails) call calls all))
