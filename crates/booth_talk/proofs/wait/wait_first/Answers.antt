use Rattle.std.proofs.Common.{arith, refl}
use Rattle.booth_talk.specs.Waiting.{IsSilent, IsLate, Brings}
use Rattle.booth_talk.specs.declared.wait.TheConstants.{MOST_PAIRS}
use Rattle.booth_talk.proofs.WaitLemmas.{no_pair, one_pair, last_pair, over_late}
use Rattle.booth_talk.proofs.wait.wait_first.Goals as goal

pub loop-pair-init : goal.loop-pair-init
loop-pair-init g c = record {
  past = no_pair (IsSilent c.args.asking.now c.args.start);
  later = omega arith;
}

pub loop-pair-preserved : goal.loop-pair-preserved
loop-pair-preserved g c = record {
  past = one_pair (IsSilent c.args.asking.now c.args.start) c.loop-pair.invariant.past c.next-answer.ensures.past c.now-reading.ensures.past
      c.in-Silent.ensures;
  later = omega (arith, c.loop-pair.invariant.later, c.next-answer.ensures.cause.later, c.now-reading.ensures.later);
}

pub returns-in-Answer-clause-past : goal.returns-in-Answer-clause-past
returns-in-Answer-clause-past g c =
    last_pair (IsSilent c.args.asking.now c.args.start)
    (Brings c.args.asking.now c.args.start c.in-Answer.reply c.now-reading.result c.next-answer.new.into) MOST_PAIRS
    c.loop-pair.invariant.past c.next-answer.ensures.past c.now-reading.ensures.past (omega (arith, c.loop-pair-test.true))
    (record { is = c.in-Answer.ensures; at = refl; with = refl })

pub returns-in-Late-clause-past : goal.returns-in-Late-clause-past
returns-in-Late-clause-past g c =
    over_late c.args.asking.now c.args.start
    (last_pair (IsSilent c.args.asking.now c.args.start) (IsLate c.args.asking.now c.args.start) MOST_PAIRS
    c.loop-pair.invariant.past c.next-answer.ensures.past c.now-reading.ensures.past (omega (arith, c.loop-pair-test.true)) c.in-Late.ensures)
