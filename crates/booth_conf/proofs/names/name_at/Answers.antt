use Rattle.std.proofs.Common.{rules, tests, arith, ◌≡◌, ◌<◌, length, get_or, eqb, sym, ◌∙◌}
use Rattle.std.proofs.lemmas.List.{length_push}
use Rattle.std.proofs.lemmas.Iterator.Splits.{YieldsList-from_slice_split}
use Rattle.std.proofs.lemmas.Iterator.Consumers.{YieldsList-turn, YieldsList-end, YieldsList-at}
use Rattle.booth_conf.specs.Reads.{lines_of}
use Rattle.booth_conf.proofs.NameLemmas.{after_passed, after_counted, at_found, none_left}
use Rattle.booth_conf.proofs.names.name_at.Goals as goal

pub returns-in-Some-name_in : goal.returns-in-Some-name_in
returns-in-Some-name_in c =
    let t : (length c.loop-line.yielded < length (lines_of c.args.text.now)) × (c.in-Some.line.now ≡ get_or (lines_of c.args.text.now) (length c.loop-line.yielded) c.in-Some.line.now) = YieldsList-turn (YieldsList-at c.into_iter-line-iterator.ensures.into_iter_gives (YieldsList-from_slice_split _ (λ b. eqb b 10) c.args.text.now c.split-line-items.ensures.rest c.split-line-items.ensures.done c.split-line-items.ensures.closure (λ x r q k. search (rules, tests)))) c.loop-line.yielded _ c.loop-line.yielded_by _ _ c.in-Some.line c.in-Some.is c.next.ensures.steps in
    sym (at_found (lines_of c.args.text.now) (length c.loop-line.yielded) c.in-Some.line.now t.0 t.1 c.loop-line.left c.in-Some-name_in.name
    (sym c.name_in.ensures ∙ c.in-Some-name_in.is) c.if-left-eq0.true) ∙ c.loop-line.invariant.rest

pub loop-line-preserved-in-Some-2 : goal.loop-line-preserved-in-Some-2
loop-line-preserved-in-Some-2 c =
    let t : (length c.loop-line.yielded < length (lines_of c.args.text.now)) × (c.in-Some.line.now ≡ get_or (lines_of c.args.text.now) (length c.loop-line.yielded) c.in-Some.line.now) = YieldsList-turn (YieldsList-at c.into_iter-line-iterator.ensures.into_iter_gives (YieldsList-from_slice_split _ (λ b. eqb b 10) c.args.text.now c.split-line-items.ensures.rest c.split-line-items.ensures.done c.split-line-items.ensures.closure (λ x r q k. search (rules, tests)))) c.loop-line.yielded _ c.loop-line.yielded_by _ _ c.in-Some.line c.in-Some.is c.next.ensures.steps in
    rw (length_push c.loop-line.yielded c.in-Some.line) (record {
      rest = after_counted (lines_of c.args.text.now) (length c.loop-line.yielded) c.in-Some.line.now t.0 t.1 c.loop-line.left c.in-Some-name_in.name
          (sym c.name_in.ensures ∙ c.in-Some-name_in.is) c.if-left-eq0.false
          ∙ c.loop-line.invariant.rest;
    })

pub loop-line-preserved : goal.loop-line-preserved
loop-line-preserved c =
    let t : (length c.loop-line.yielded < length (lines_of c.args.text.now)) × (c.in-Some.line.now ≡ get_or (lines_of c.args.text.now) (length c.loop-line.yielded) c.in-Some.line.now) = YieldsList-turn (YieldsList-at c.into_iter-line-iterator.ensures.into_iter_gives (YieldsList-from_slice_split _ (λ b. eqb b 10) c.args.text.now c.split-line-items.ensures.rest c.split-line-items.ensures.done c.split-line-items.ensures.closure (λ x r q k. search (rules, tests)))) c.loop-line.yielded _ c.loop-line.yielded_by _ _ c.in-Some.line c.in-Some.is c.next.ensures.steps in
    rw (length_push c.loop-line.yielded c.in-Some.line) (record {
      rest = after_passed (lines_of c.args.text.now) (length c.loop-line.yielded) c.in-Some.line.now t.0 t.1 c.loop-line.left
          (sym c.name_in.ensures ∙ c.in-None-name_in.is) ∙ c.loop-line.invariant.rest;
    })

pub returns : goal.returns
returns c =
    let t =
    YieldsList-end (YieldsList-at c.into_iter-line-iterator.ensures.into_iter_gives (YieldsList-from_slice_split _ (λ b. eqb b 10) c.args.text.now c.split-line-items.ensures.rest c.split-line-items.ensures.done c.split-line-items.ensures.closure (λ x r q k. search (rules, tests)))) c.loop-line.yielded _ c.loop-line.yielded_by _ _ c.in-None.is c.next.ensures.steps in
    sym (none_left (lines_of c.args.text.now) (length c.loop-line.yielded) c.loop-line.left (omega (arith, t.1)))
    ∙ c.loop-line.invariant.rest
