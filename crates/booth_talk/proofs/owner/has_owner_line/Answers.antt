use Rattle.std.proofs.Common.{rules, tests, arith, ◌≡◌, ◌<◌, ℕ, [], length, get_or, eqb, below_more}
use Rattle.std.proofs.lemmas.List.{length_push}
use Rattle.std.proofs.lemmas.Iterator.Splits.{YieldsList-from_slice_split}
use Rattle.std.proofs.lemmas.Iterator.Consumers.{YieldsList-turn, YieldsList-end, YieldsList-at}
use Rattle.booth_talk.specs.Forms.{lines_of}
use Rattle.booth_talk.specs.Owner.{IsOwnerLine}
use Rattle.booth_talk.proofs.OwnerLemmas.{line_at, line_of}
use Rattle.booth_talk.proofs.owner.has_owner_line.Goals as goal

pub loop-line-init : goal.loop-line-init
loop-line-init c = record { none = λ place lt. absurd (omega (arith, lt)) }

pub returns-then-is_owner_line : goal.returns-then-is_owner_line
returns-then-is_owner_line c =
    let t : (length c.loop-line.yielded < length (lines_of c.args.text.now)) × (c.in-Some.line.now ≡ get_or (lines_of c.args.text.now) (length c.loop-line.yielded) c.in-Some.line.now) = YieldsList-turn (YieldsList-at c.into_iter-line-iterator.ensures.into_iter_gives (YieldsList-from_slice_split _ (λ b. eqb b 10) c.args.text.now c.split-line-items.ensures.rest c.split-line-items.ensures.done c.split-line-items.ensures.closure (λ x r q k. search (rules, tests)))) c.loop-line.yielded _ c.loop-line.yielded_by _ _ c.in-Some.line c.in-Some.is c.next.ensures.steps in
    (length c.loop-line.yielded, t.0, line_at (IsOwnerLine c.args.ticket.now c.args.owner.now) (lines_of c.args.text.now) c.in-Some.line.now (length c.loop-line.yielded) t.0 t.1 c.if-is_owner_line.ensures)

pub loop-line-preserved : goal.loop-line-preserved
loop-line-preserved c =
    let t : (length c.loop-line.yielded < length (lines_of c.args.text.now)) × (c.in-Some.line.now ≡ get_or (lines_of c.args.text.now) (length c.loop-line.yielded) c.in-Some.line.now) = YieldsList-turn (YieldsList-at c.into_iter-line-iterator.ensures.into_iter_gives (YieldsList-from_slice_split _ (λ b. eqb b 10) c.args.text.now c.split-line-items.ensures.rest c.split-line-items.ensures.done c.split-line-items.ensures.closure (λ x r q k. search (rules, tests)))) c.loop-line.yielded _ c.loop-line.yielded_by _ _ c.in-Some.line c.in-Some.is c.next.ensures.steps in
    rw (length_push c.loop-line.yielded c.in-Some.line) (record {
      none = λ place lt. below_more (λ (place : ℕ). IsOwnerLine c.args.ticket.now c.args.owner.now (get_or (lines_of c.args.text.now) place []) → ⊥) (length c.loop-line.yielded)
          (λ place lt. c.loop-line.invariant.none place lt)
          (λ of. c.if-is_owner_line.ensures (line_of (IsOwnerLine c.args.ticket.now c.args.owner.now) (lines_of c.args.text.now) c.in-Some.line.now (length c.loop-line.yielded) t.0 t.1 of))
          place lt;
    })

pub returns : goal.returns
returns c =
    let t =
    YieldsList-end (YieldsList-at c.into_iter-line-iterator.ensures.into_iter_gives (YieldsList-from_slice_split _ (λ b. eqb b 10) c.args.text.now c.split-line-items.ensures.rest c.split-line-items.ensures.done c.split-line-items.ensures.closure (λ x r q k. search (rules, tests)))) c.loop-line.yielded _ c.loop-line.yielded_by _ _ c.in-None.is c.next.ensures.steps in
    λ has. c.loop-line.invariant.none has.0 (omega (arith, has.1, t.1)) has.2
