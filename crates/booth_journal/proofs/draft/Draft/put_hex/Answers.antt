use Rattle.std.proofs.Common.{◌∙◌, ◌++◌, [], ◌∷◌, List, ℕ, ap, arith, length, length-append, slice_index, take}
use Rattle.hex.specs.Hex.{encode_lower}
use Rattle.booth_journal.proofs.HexLemmas.{encode_long, encode_more, encode_none}
use Rattle.booth_journal.proofs.draft.Draft.put_hex.Goals as goal

pub loop-byte-init : goal.loop-byte-init
loop-byte-init c = record { bytes = encode_none c.args.self.now c.args.bytes.now; len = omega arith }

pub loop-byte-preserved : goal.loop-byte-preserved
loop-byte-preserved c =
    let so_far = c.loop-byte.invariant.len in
    let all = ap length c.put.ensures ∙ length-append c.loop-byte.self c.digits_of.result in
    let two = ap length c.digits_of.ensures ∙ encode_long (slice_index c.args.bytes.now c.loop-byte.byte-index ∷ []) in
    record {
      bytes = c.put.ensures ∙ ap (λ (l : List ℕ). l ++ c.digits_of.result) c.loop-byte.invariant.bytes
          ∙ ap (λ (l : List ℕ). (c.args.self.now ++ encode_lower (take c.loop-byte.byte-index c.args.bytes.now)) ++ l) c.digits_of.ensures
          ∙ encode_more c.args.self.now c.args.bytes.now c.loop-byte.byte-index c.loop-byte-test.true;
      len = omega (arith, so_far, all, two);
    }
