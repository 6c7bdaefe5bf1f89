use Rattle.std.proofs.Common.{◌≡◌, ◌++◌, map, take, drop, bit_xor}
use Rattle.booth_keys.specs.Mac.{block}
use Rattle.booth_keys.proofs.pads.pad.Given as goal

-- the bytes up to here are xored, the others are the block's
abbrev pub invariant-loop-byte : goal.invariant-loop-byte
invariant-loop-byte l = l.byte-items ≡ map (λ b. bit_xor b l.with) (take l.byte-index (block l.key)) ++ drop l.byte-index (block l.key)
