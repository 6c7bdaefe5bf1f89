use Rattle.std.proofs.Common.{arith, refl, sym}
use Rattle.booth_talk.specs.Waiting.{IsUnsettled, BringsOutcome}
use Rattle.booth_talk.specs.declared.wait.TheConstants.{MOST_PAIRS}
use Rattle.booth_talk.proofs.WaitLemmas.{no_pair, one_pair, last_pair}
use Rattle.booth_talk.proofs.wait.wait_final.Goals as goal

pub loop-pair-init : goal.loop-pair-init
loop-pair-init g c = record {
  past = no_pair (IsUnsettled c.args.asking.now c.args.start);
  later = omega arith;
}

pub loop-pair-preserved : goal.loop-pair-preserved
loop-pair-preserved g c = record {
  past = one_pair (IsUnsettled c.args.asking.now c.args.start) c.loop-pair.invariant.past c.next-answer.ensures.past c.now-reading.ensures.past
      (record { none = sym c.in-None.ensures });
  later = omega (arith, c.loop-pair.invariant.later, c.next-answer.ensures.cause.later, c.now-reading.ensures.later);
}

pub returns-in-Some-clause-past : goal.returns-in-Some-clause-past
returns-in-Some-clause-past g c =
    last_pair (IsUnsettled c.args.asking.now c.args.start)
    (BringsOutcome c.args.asking.now c.args.start c.in-Some.reply c.now-reading.result c.next-answer.new.into) MOST_PAIRS
    c.loop-pair.invariant.past c.next-answer.ensures.past c.now-reading.ensures.past (omega (arith, c.loop-pair-test.true))
    (record { is = sym c.in-Some.ensures; at = refl; with = refl })
