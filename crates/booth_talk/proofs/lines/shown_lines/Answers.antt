use Rattle.std.proofs.Common.{rules, tests, arith, ◌≡◌, ◌<◌, length, get_or, eqb}
use Rattle.std.proofs.lemmas.List.{length_push}
use Rattle.std.proofs.lemmas.Iterator.Splits.{YieldsList-from_slice_split}
use Rattle.std.proofs.lemmas.Iterator.Consumers.{YieldsList-turn, YieldsList-end, YieldsList-at}
use Rattle.booth_talk.specs.Forms.{lines_of}
use Rattle.booth_talk.proofs.LineLemmas.{all_shown, none_shown, one_bad, one_more_shown}
use Rattle.booth_talk.proofs.lines.shown_lines.Goals as goal

pub loop-line-init : goal.loop-line-init
loop-line-init c = record {
  done = rw (c.first_kind-kind.ensures, c.new-shown.ensures.items) (none_shown c.args.form (lines_of c.args.body.now));
}

pub returns-then-not-is_line : goal.returns-then-not-is_line
returns-then-not-is_line c =
    let t : (length c.loop-line.yielded < length (lines_of c.args.body.now)) × (c.in-Some.line.now ≡ get_or (lines_of c.args.body.now) (length c.loop-line.yielded) c.in-Some.line.now) = YieldsList-turn (YieldsList-at c.into_iter-line-iterator.ensures.into_iter_gives (YieldsList-from_slice_split _ (λ b. eqb b 10) c.args.body.now c.split-line-items.ensures.rest c.split-line-items.ensures.done c.split-line-items.ensures.closure (λ x r q k. search (rules, tests)))) c.loop-line.yielded _ c.loop-line.yielded_by _ _ c.in-Some.line c.in-Some.is c.next.ensures.steps in
    one_bad c.args.form (lines_of c.args.body.now) (length c.loop-line.yielded) c.loop-line.kind c.in-Some.line.now c.loop-line.shown.items
    c.loop-line.invariant.done t.0 t.1 (λ h. c.if-not-is_line.ensures h)

pub loop-line-preserved : goal.loop-line-preserved
loop-line-preserved c =
    let t : (length c.loop-line.yielded < length (lines_of c.args.body.now)) × (c.in-Some.line.now ≡ get_or (lines_of c.args.body.now) (length c.loop-line.yielded) c.in-Some.line.now) = YieldsList-turn (YieldsList-at c.into_iter-line-iterator.ensures.into_iter_gives (YieldsList-from_slice_split _ (λ b. eqb b 10) c.args.body.now c.split-line-items.ensures.rest c.split-line-items.ensures.done c.split-line-items.ensures.closure (λ x r q k. search (rules, tests)))) c.loop-line.yielded _ c.loop-line.yielded_by _ _ c.in-Some.line c.in-Some.is c.next.ensures.steps in
    rw (length_push c.loop-line.yielded c.in-Some.line) (record {
      done = one_more_shown c.args.form (lines_of c.args.body.now) (length c.loop-line.yielded) c.loop-line.kind c.other_kind-kind.result
          c.in-Some.line.now c.loop-line.shown.items c.put_line.new.shown.items c.loop-line.invariant.done t.0 t.1 c.if-not-is_line.ensures
          c.in_ok-put_line.ensures c.other_kind-kind.ensures;
    })

pub returns : goal.returns
returns c =
    let t =
    YieldsList-end (YieldsList-at c.into_iter-line-iterator.ensures.into_iter_gives (YieldsList-from_slice_split _ (λ b. eqb b 10) c.args.body.now c.split-line-items.ensures.rest c.split-line-items.ensures.done c.split-line-items.ensures.closure (λ x r q k. search (rules, tests)))) c.loop-line.yielded _ c.loop-line.yielded_by _ _ c.in-None.is c.next.ensures.steps in
    all_shown c.args.form (lines_of c.args.body.now) (length c.loop-line.yielded) c.loop-line.kind c.loop-line.shown.items
    c.loop-line.invariant.done (omega (arith, t.1))
