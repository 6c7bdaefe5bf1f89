-- What a datagram keeps of a frame.
use Rattle.std.specs.Prelude.{take, min}
use Rattle.std.proofs.Common.{◌≡◌, ◌≤◌, ℕ, List, length, ap, ◌∙◌, arith}
use Rattle.std.proofs.Math.Seq.{take-length}

-- no byte is cut off of a list that fits
pub take_short : (bytes : List ℕ) (most : ℕ) → length bytes ≤ most → take (min (length bytes) most) bytes ≡ bytes
take_short bytes most fits =
    let all : min (length bytes) most ≡ length bytes = omega (arith, fits) in
    ap (λ n. take n bytes) all ∙ take-length bytes
