use Rattle.std.specs.Prelude.{Err}
use Rattle.std.proofs.Common.{ap, arith}
use Rattle.booth_journal.proofs.TextLemmas.{all_read, counted, none_follows, none_read, one_read}
use Rattle.booth_journal.proofs.texts.read_lines.Goals as goal

pub lines-init : goal.lines-init
lines-init c = record { so_far = none_read c.args.text.now }

pub overflow_add-count : goal.overflow_add-count
overflow_add-count c =
    let less = counted c.args.text.now c.lines.rest.now c.lines.asked c.lines.count c.in-Some.line.now c.in-Some.more.now
    c.lines.invariant.so_far c.in-Some.ensures in
    omega (arith, less)

pub returns-in-Err-NoLine-clause-fault : goal.returns-in-Err-NoLine-clause-fault
returns-in-Err-NoLine-clause-fault c =
    none_follows c.args.text.now c.lines.rest.now c.lines.asked c.lines.count c.in-Some.line.now c.in-Some.more.now
    c.lines.invariant.so_far c.in-Some.ensures (c.in-Err-NoLine.ensures.none (ap Err c.in-Err-NoLine.field-0-is))

pub lines-preserved : goal.lines-preserved
lines-preserved c = record {
  so_far =
      one_read c.args.text.now c.lines.rest.now c.lines.asked c.lines.count c.in-Some.line.now c.in-Some.more.now c.in-Ok.after
      c.lines.invariant.so_far c.in-Some.ensures c.in-Ok.ensures.found;
}

pub returns-clause-journal : goal.returns-clause-journal
returns-clause-journal c =
    all_read c.args.text.now c.lines.rest.now c.lines.asked c.lines.count c.lines.invariant.so_far c.in_default.ensures
