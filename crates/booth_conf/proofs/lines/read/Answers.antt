use Rattle.std.proofs.Common.{rules, tests, arith, ◌≡◌, ℕ, ◌+◌, ◌<◌, List, length, get_or, eqb, ap, ◌∙◌}
use Rattle.std.proofs.lemmas.List.{length_push, take_all, length-map}
use Rattle.std.proofs.lemmas.Iterator.Splits.{YieldsList-from_slice_split}
use Rattle.std.proofs.lemmas.Iterator.Consumers.{YieldsList-turn, YieldsList-end, YieldsList-at}
use Rattle.booth_conf.specs.Rules.{summary, settings}
use Rattle.booth_conf.specs.SaidReader.{said}
use Rattle.booth_conf.specs.Reads.{lines_of, said_lines}
use Rattle.booth_conf.specs.declared.line_meaning.Said.{Said}
use Rattle.booth_conf.proofs.Turns.{AtLine, at_line_of, draft_more, fine_more, reads_err}
use Rattle.booth_conf.proofs.lines.read.Goals as goal

pub loop-line-preserved : goal.loop-line-preserved
loop-line-preserved c =
    let t : (length c.loop-line.yielded < length (lines_of c.args.text.now)) × (c.in-Some.line.now ≡ get_or (lines_of c.args.text.now) (length c.loop-line.yielded) c.in-Some.line.now) = YieldsList-turn (YieldsList-at c.into_iter-line-iterator.ensures.into_iter_gives (YieldsList-from_slice_split _ (λ b. eqb b 10) c.args.text.now c.split-line-items.ensures.rest c.split-line-items.ensures.done c.split-line-items.ensures.closure (λ x r q k. search (rules, tests)))) c.loop-line.yielded _ c.loop-line.yielded_by _ _ c.in-Some.line c.in-Some.is c.next.ensures.steps in
    let n : ℕ = length c.loop-line.yielded in
    let ss : List Said = said_lines c.args.text.now in
    let s : Said = said c.in-Some.line.now in
    let place : AtLine ss n s c.loop-line.draft =
    at_line_of (lines_of c.args.text.now) n c.in-Some.line.now c.loop-line.draft t.0 t.1 c.loop-line.invariant.draft in
    rw (length_push c.loop-line.yielded c.in-Some.line) (record {
      count = omega (arith, c.loop-line.invariant.count);
      draft = draft_more ss n s c.loop-line.draft c.line.new.self place c.in-Ok.ensures.0 c.in-Ok.ensures.1;
      fine = fine_more ss n s c.loop-line.draft place c.in-Ok.ensures.0 c.loop-line.invariant.fine;
    })

pub returns-in-Err : goal.returns-in-Err
returns-in-Err c =
    let t : (length c.loop-line.yielded < length (lines_of c.args.text.now)) × (c.in-Some.line.now ≡ get_or (lines_of c.args.text.now) (length c.loop-line.yielded) c.in-Some.line.now) = YieldsList-turn (YieldsList-at c.into_iter-line-iterator.ensures.into_iter_gives (YieldsList-from_slice_split _ (λ b. eqb b 10) c.args.text.now c.split-line-items.ensures.rest c.split-line-items.ensures.done c.split-line-items.ensures.closure (λ x r q k. search (rules, tests)))) c.loop-line.yielded _ c.loop-line.yielded_by _ _ c.in-Some.line c.in-Some.is c.next.ensures.steps in
    let n : ℕ = length c.loop-line.yielded in
    let ss : List Said = said_lines c.args.text.now in
    let s : Said = said c.in-Some.line.now in
    let place : AtLine ss n s c.loop-line.draft =
    at_line_of (lines_of c.args.text.now) n c.in-Some.line.now c.loop-line.draft t.0 t.1 c.loop-line.invariant.draft in
    rw c.at_line.ensures (reads_err ss n s c.loop-line.draft c.line.new.self _ c.in-Err.stop (c.loop-line.number + 1) place (omega (arith, c.loop-line.invariant.count)) c.in-Err.ensures c.loop-line.invariant.fine)

pub returns : goal.returns
returns c =
    let t =
    YieldsList-end (YieldsList-at c.into_iter-line-iterator.ensures.into_iter_gives (YieldsList-from_slice_split _ (λ b. eqb b 10) c.args.text.now c.split-line-items.ensures.rest c.split-line-items.ensures.done c.split-line-items.ensures.closure (λ x r q k. search (rules, tests)))) c.loop-line.yielded _ c.loop-line.yielded_by _ _ c.in-None.is c.next.ensures.steps in
    let ss : List Said = said_lines c.args.text.now in
    let len : length ss ≡ length (lines_of c.args.text.now) =
    length-map (lines_of c.args.text.now) said in
    (λ m h. c.loop-line.invariant.fine m (omega (arith, t.1, len, h)), c.loop-line.invariant.draft ∙ ap (λ xs. summary (settings xs)) (take_all (length c.loop-line.yielded) ss (omega (arith, t.1, len))))
