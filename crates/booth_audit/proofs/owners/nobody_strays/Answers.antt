use Rattle.std.proofs.Common.{◌+◌, ◌∙◌, ap, arith, ℕ}
use Rattle.booth_audit.proofs.OwnerLemmas.{left_more, lines_said, nobody_all, nobody_more, nobody_strays_here, seen_shorter}
use Rattle.booth_audit.proofs.owners.nobody_strays.Goals as goal

pub returns-else-is_now : goal.returns-else-is_now
returns-else-is_now c all says node closed =
    let is = c.calls.invariant.so_far node all says closed in
    nobody_strays_here is (c.in-Some.ensures is.left is.says) c.if-is_now.ensures

pub overflow_add-line : goal.overflow_add-line
overflow_add-line c =
    let is = c.calls.invariant.left c.requires.says.0 c.requires.says.1 in
    let f = c.in-Some.ensures is.left is.says in
    let more = left_more is f (ap (λ (n : ℕ). c.calls.line + n) c.lines_of-line.ensures ∙ lines_said c.calls.line f) in
    let within = more.within in
    let short = c.requires.short in
    omega (arith, within, short)

pub calls-smaller : goal.calls-smaller
calls-smaller c =
    let is = c.calls.invariant.left c.requires.says.0 c.requires.says.1 in
    seen_shorter (c.in-Some.ensures is.left is.says)

pub calls-preserved : goal.calls-preserved
calls-preserved c = record {
  left = λ all says.
      let is = c.calls.invariant.left all says in
      let f = c.in-Some.ensures is.left is.says in
      left_more is f (ap (λ (n : ℕ). c.calls.line + n) c.lines_of-line.ensures ∙ lines_said c.calls.line f);
  so_far = λ node all says closed.
      let is = c.calls.invariant.so_far node all says closed in
      let f = c.in-Some.ensures is.left is.says in
      nobody_more is f c.if-is_now.ensures
      (ap (λ (n : ℕ). c.calls.line + n) c.lines_of-line.ensures ∙ lines_said c.calls.line f);
}

pub returns : goal.returns
returns c all says node closed =
    let is = c.calls.invariant.so_far node all says closed in
    nobody_all is (c.in_default.ensures is.left is.says)
