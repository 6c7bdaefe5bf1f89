use Rattle.std.proofs.Common.{◌≡◌, length, drop, eqb}
use Rattle.std.specs.List.{slice_split}
use Rattle.booth_conf.specs.ValueReader.{weights_from, weights_in}
use Rattle.booth_conf.proofs.weights.weights.Given as goal

-- the weights so far and the pieces that are left give the weights of the text
abbrev pub invariant-loop-piece : goal.invariant-loop-piece
invariant-loop-piece l =
    weights_in l.text ≡ weights_from l.weights.items (drop (length l.yielded) (slice_split (λ b. eqb b 44) l.text))
