use Rattle.std.proofs.Common.{◌≡◌, ◌+◌, ◌++◌, ℕ, set, get_or, map, take, drop, bit_xor, subst, sym}
use Rattle.booth_keys.specs.Mac.{block}
use Rattle.booth_keys.proofs.MacLemmas.{mapped_more}
use Rattle.booth_keys.proofs.pads.pad.Goals as goal

pub loop-byte-preserved : goal.loop-byte-preserved
loop-byte-preserved c =
    let i : ℕ = c.loop-byte.byte-index in
    let xor = λ (b : ℕ). bit_xor b c.args.with in
    let bytes = block c.args.key.now in
    subst (λ items. set items i (xor (get_or items i 0)) ≡ map xor (take (i + 1) bytes) ++ drop (i + 1) bytes) (sym c.loop-byte.invariant) (mapped_more xor bytes i)
