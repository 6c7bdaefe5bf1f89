use Rattle.std.proofs.Common.{◌+◌, arith, subst, sym}
use Rattle.booth_talk.specs.Fields.{IsNumber}
use Rattle.booth_talk.proofs.FieldLemmas.{AreLeft, all_done, none_done, one_missing, one_more_done}
use Rattle.booth_talk.proofs.numbers.are_numbers.Goals as goal

pub loop-number-init : goal.loop-number-init
loop-number-init c = record { done = none_done c.args.more c.args.text.now }

pub loop-number-preserved : goal.loop-number-preserved
loop-number-preserved c = record {
  done = subst (λ t. AreLeft c.args.more (c.loop-number._number + 1) c.args.text.now t) (sym c.rest-left.ensures)
      (one_more_done c.args.more c.loop-number._number c.args.text.now c.loop-number.left.now c.loop-number.invariant.done
      (subst IsNumber c.first.ensures c.if-not-is_number.ensures));
}

pub returns-then-not-is_number : goal.returns-then-not-is_number
returns-then-not-is_number c =
    one_missing c.args.more c.loop-number._number c.args.text.now c.loop-number.left.now c.loop-number.invariant.done c.loop-number-test.true
    (λ h. c.if-not-is_number.ensures (subst IsNumber (sym c.first.ensures) h))

pub returns : goal.returns
returns c =
    all_done c.is_number-2.result c.args.more c.loop-number._number c.args.text.now c.loop-number.left.now c.loop-number.invariant.done
    (omega (arith, c.loop-number-test.false, c.loop-number.auto._number-end)) c.is_number-2.ensures
