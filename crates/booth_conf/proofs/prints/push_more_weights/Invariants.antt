use Rattle.std.proofs.Common.{◌≡◌, ◌++◌, ◌∷◌, take, decimal}
use Rattle.std.specs.List.{flat_map}
use Rattle.booth_conf.proofs.prints.push_more_weights.Given as goal

abbrev pub invariant-loop-weight : goal.invariant-loop-weight
invariant-loop-weight l =
    l.out.items ≡ l.fn.out.items ++ flat_map (λ m. 0x2C ∷ decimal m) (take l.weight-index l.weights)
