use Rattle.std.proofs.Common.{◌+◌, ◌++◌, ◌∙◌, List, ℕ, drop, map, ap, sym, arith}
use Rattle.std.proofs.lemmas.List.{get_or-map, length-map}
use Rattle.booth_talk.specs.Forms.{labelled}
use Rattle.booth_talk.proofs.LineLemmas.{labels_shown, one_shown}
use Rattle.booth_talk.proofs.lines.put_labelled.Goals as goal

pub loop-label-preserved : goal.loop-label-preserved
loop-label-preserved c =
    let labels : List (List ℕ) = map (λ t. t.now) c.args.labels.now in
    record {
      whole = ap (λ t. c.put-in-loop-label.new.shown.items ++ labelled (drop (c.loop-label.label-index + 1) labels) t) c.rest-left.ensures
          ∙ one_shown labels c.loop-label.label-index c.as_bytes.result.now c.loop-label.left.now c.loop-label.shown.items
          c.put.new.shown.items c.put-in-loop-label.new.shown.items _
          (omega (arith, c.loop-label-test.true, length-map c.args.labels.now (λ t. t.now)))
          (c.as_bytes.ensures.value ∙ sym (get_or-map (λ t. t.now) c.args.labels.now c.loop-label.label-index _ c.as_bytes.result.now c.loop-label-test.true))
          c.loop-label.invariant.whole c.in_ok-put.ensures
          (c.in_ok-put-2.ensures ∙ ap (λ t. c.put.new.shown.items ++ t) c.first.ensures);
    }

pub returns : goal.returns
returns c =
    let labels : List (List ℕ) = map (λ t. t.now) c.args.labels.now in
    labels_shown labels c.loop-label.label-index c.loop-label.left.now c.loop-label.shown.items _
    (omega (arith, c.loop-label-test.false, length-map c.args.labels.now (λ t. t.now))) c.loop-label.invariant.whole
