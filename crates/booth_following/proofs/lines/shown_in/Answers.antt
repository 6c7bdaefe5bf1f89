use Rattle.std.proofs.Common.{rules, tests, arith, ◌≡◌, ◌<◌, ℕ, [], length, get_or, eqb, below_more}
use Rattle.std.proofs.lemmas.List.{length_push}
use Rattle.std.proofs.lemmas.Iterator.Splits.{YieldsList-from_slice_split}
use Rattle.std.proofs.lemmas.Iterator.Consumers.{YieldsList-turn, YieldsList-end, YieldsList-at}
use Rattle.booth_following.specs.Lists.{IsLine, lines_of}
use Rattle.booth_following.proofs.LineLemmas.{line_at, line_of}
use Rattle.booth_following.proofs.lines.shown_in.Goals as goal

pub loop-line-init : goal.loop-line-init
loop-line-init c = record { none = λ place until lt. absurd (omega (arith, lt)) }

pub returns-in-Some-until_in : goal.returns-in-Some-until_in
returns-in-Some-until_in c =
    let t : (length c.loop-line.yielded < length (lines_of c.args.text.now)) × (c.in-Some.line.now ≡ get_or (lines_of c.args.text.now) (length c.loop-line.yielded) c.in-Some.line.now) = YieldsList-turn (YieldsList-at c.into_iter-line-iterator.ensures.into_iter_gives (YieldsList-from_slice_split _ (λ b. eqb b 10) c.args.text.now c.split-line-items.ensures.rest c.split-line-items.ensures.done c.split-line-items.ensures.closure (λ x r q k. search (rules, tests)))) c.loop-line.yielded _ c.loop-line.yielded_by _ _ c.in-Some.line c.in-Some.is c.next.ensures.steps in
    (length c.loop-line.yielded, t.0, line_at (λ line. IsLine c.args.start.now line c.in-Some-until_in.until) (lines_of c.args.text.now) c.in-Some.line.now (length c.loop-line.yielded) t.0 t.1 c.in-Some-until_in.ensures)

pub loop-line-preserved : goal.loop-line-preserved
loop-line-preserved c =
    let t : (length c.loop-line.yielded < length (lines_of c.args.text.now)) × (c.in-Some.line.now ≡ get_or (lines_of c.args.text.now) (length c.loop-line.yielded) c.in-Some.line.now) = YieldsList-turn (YieldsList-at c.into_iter-line-iterator.ensures.into_iter_gives (YieldsList-from_slice_split _ (λ b. eqb b 10) c.args.text.now c.split-line-items.ensures.rest c.split-line-items.ensures.done c.split-line-items.ensures.closure (λ x r q k. search (rules, tests)))) c.loop-line.yielded _ c.loop-line.yielded_by _ _ c.in-Some.line c.in-Some.is c.next.ensures.steps in
    rw (length_push c.loop-line.yielded c.in-Some.line) (record {
      none = λ place until lt. below_more (λ (place : ℕ). (until : ℕ) → IsLine c.args.start.now (get_or (lines_of c.args.text.now) place []) until → ⊥) (length c.loop-line.yielded)
          (λ place lt until. c.loop-line.invariant.none place until lt)
          (λ until told. c.in-None-until_in.ensures until (line_of (λ line. IsLine c.args.start.now line until) (lines_of c.args.text.now) c.in-Some.line.now (length c.loop-line.yielded) t.0 t.1 told))
          place lt until;
    })

pub returns : goal.returns
returns c =
    let t =
    YieldsList-end (YieldsList-at c.into_iter-line-iterator.ensures.into_iter_gives (YieldsList-from_slice_split _ (λ b. eqb b 10) c.args.text.now c.split-line-items.ensures.rest c.split-line-items.ensures.done c.split-line-items.ensures.closure (λ x r q k. search (rules, tests)))) c.loop-line.yielded _ c.loop-line.yielded_by _ _ c.in-None.is c.next.ensures.steps in
    λ place until lt. c.loop-line.invariant.none place until (omega (arith, lt, t.1))
