use Rattle.std.proofs.Common.{arith}
use Rattle.booth_talk.proofs.ListLemmas.{listed_late, listed_refused, listed_whole, none_kept, one_kept}
use Rattle.booth_talk.proofs.list_wait.wait_list.Goals as goal

pub loop-pair-init : goal.loop-pair-init
loop-pair-init g c = record {
  past = none_kept c.args.asking.now c.args.start c.args.parts.now c.requires;
  later = omega arith;
}

pub loop-pair-preserved : goal.loop-pair-preserved
loop-pair-preserved g c = record {
  past = one_kept c.args.asking.now c.args.start c.loop-pair._pair c.next-answer.result c.next-answer.new.into c.now-reading.result
      c.loop-pair.parts c.judged.new.parts c.loop-pair.invariant.past c.next-answer.ensures.past c.now-reading.ensures.past c.in-Silent.ensures.taken
      c.in-Silent.ensures.heard.0 c.in-Silent.ensures.heard.1;
  later = omega (arith, c.loop-pair.invariant.later, c.next-answer.ensures.cause.later, c.now-reading.ensures.later);
}

pub returns-in-Whole-clause-past : goal.returns-in-Whole-clause-past
returns-in-Whole-clause-past g c =
    listed_whole c.args.asking.now c.args.start c.loop-pair._pair c.next-answer.result c.next-answer.new.into c.now-reading.result
    c.loop-pair.parts c.judged.new.parts c.loop-pair.invariant.past c.next-answer.ensures.past c.now-reading.ensures.past c.in-Whole.ensures.taken
    (omega (arith, c.loop-pair-test.true)) c.in-Whole.ensures.heard

pub returns-in-Refusal-clause-past : goal.returns-in-Refusal-clause-past
returns-in-Refusal-clause-past g c =
    listed_refused c.args.asking.now c.args.start c.loop-pair._pair c.next-answer.result c.next-answer.new.into c.now-reading.result
    c.loop-pair.parts c.judged.new.parts c.loop-pair.invariant.past c.next-answer.ensures.past c.now-reading.ensures.past c.in-Refusal.ensures.taken
    c.in-Refusal.code (omega (arith, c.loop-pair-test.true)) c.in-Refusal.ensures.heard

pub returns-in-Late-clause-past : goal.returns-in-Late-clause-past
returns-in-Late-clause-past g c =
    listed_late c.args.asking.now c.args.start c.loop-pair._pair c.next-answer.result c.next-answer.new.into c.now-reading.result
    c.loop-pair.parts c.judged.new.parts c.loop-pair.invariant.past c.next-answer.ensures.past c.now-reading.ensures.past c.in-Late.ensures.taken
    (omega (arith, c.loop-pair-test.true)) c.in-Late.ensures.heard.0 c.in-Late.ensures.heard.1 c.in-Late.ensures.heard.2
