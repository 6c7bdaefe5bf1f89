use Rattle.std.proofs.Common.{◌+◌, arith, inl, inr}
use Rattle.std.proofs.lemmas.Bool.Decides.{nat_tests}
use Rattle.booth_conf.proofs.Bare.{after_byte, after_blank, at_note, at_end, no_gap, stays}
use Rattle.booth_conf.proofs.grammar.bare_part.Goals as goal
use Rattle.booth_conf.proofs.grammar.bare_part.Goals.{then-not-is_blank, else-not-is_blank, else-loop-i-test, then-loop-i-test+then-byte-eq35+then-end-i}

pub loop-i-preserved : goal.loop-i-preserved
loop-i-preserved c = elim c.if-not-is_blank.branch [
  | then-not-is_blank w ↦ rw w.end-is (record {
    within = omega arith;
    gap = no_gap c.args.bytes.now (c.loop-i.i + 1);
    value = after_byte c.args.bytes.now c.loop-i.end c.loop-i.i c.loop-i.invariant.within (omega arith) c.loop-i.invariant.gap (grind (arith, nat_tests)) (stays c.args.bytes.now c.loop-i.end c.loop-i.i (λ e. elim c.else-byte-eq35.either [ inl p ↦ p.1 | inr n ↦ absurd (n e) ])) c.loop-i.invariant.value;
  })
  | else-not-is_blank w ↦ rw w.end-is (record {
    within = omega arith;
    gap = after_blank c.args.bytes.now c.loop-i.end c.loop-i.i c.loop-i.invariant.within (omega arith) c.loop-i.invariant.gap (grind (arith, nat_tests));
    value = c.loop-i.invariant.value;
  })
]

pub returns : goal.returns
returns c = elim c.loop-i-test.branch [
  | else-loop-i-test w ↦ at_end c.args.bytes.now c.loop-i.end c.loop-i.i c.loop-i.invariant.within (omega arith) c.loop-i.invariant.gap c.loop-i.invariant.value
  | then-loop-i-test+then-byte-eq35+then-end-i w ↦ at_note c.args.bytes.now c.loop-i.end c.loop-i.i (omega arith) (omega arith) c.loop-i.invariant.gap (grind (arith, nat_tests)) c.loop-i.invariant.value
]
