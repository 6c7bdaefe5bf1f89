use Rattle.std.proofs.Common.{rules, tests, arith, ◌≡◌, ◌+◌, ◌<◌, ◌≤◌, ℕ, List, length, drop, get_or, eqb, ap, ◌∙◌, sym}
use Rattle.std.specs.List.{slice_split}
use Rattle.std.specs.Prelude.{option_and_then}
use Rattle.std.proofs.lemmas.List.{length_push}
use Rattle.std.proofs.lemmas.Iterator.Splits.{YieldsList-from_slice_split}
use Rattle.std.proofs.lemmas.Iterator.Consumers.{YieldsList-turn, YieldsList-end, YieldsList-at}
use Rattle.booth_conf.specs.ValueReader.{weights_from}
use Rattle.booth_conf.proofs.WeightLemmas.{NextPiece, piece_taken, all_taken}
use Rattle.booth_conf.proofs.weights.weights.Goals as goal

pub loop-piece-preserved : goal.loop-piece-preserved
loop-piece-preserved c =
    let pieces : List (List ℕ) = slice_split (λ b. eqb b 44) c.args.text.now in
    let n : ℕ = length c.loop-piece.yielded in
    let t : (n < length pieces) × (c.in-Some.piece.now ≡ get_or pieces n c.in-Some.piece.now) =
    YieldsList-turn (YieldsList-at c.into_iter-piece-iterator.ensures.into_iter_gives (YieldsList-from_slice_split _ (λ b. eqb b 44) c.args.text.now c.split-piece-items.ensures.rest c.split-piece-items.ensures.done c.split-piece-items.ensures.closure (λ x r q k. search (rules, tests)))) c.loop-piece.yielded _ c.loop-piece.yielded_by _ _ c.in-Some.piece c.in-Some.is c.next.ensures.steps in
    let next : NextPiece pieces n c.in-Some.piece.now = record { within = t.0; is = t.1 } in
    rw (length_push c.loop-piece.yielded c.in-Some.piece)
    (c.loop-piece.invariant ∙ piece_taken pieces n c.in-Some.piece.now c.loop-piece.weights.items next ∙ ap (option_and_then (λ more. weights_from more (drop (n + 1) pieces))) c.in-Some-add_weight.ensures)

pub returns-in-None-add_weight : goal.returns-in-None-add_weight
returns-in-None-add_weight c =
    let pieces : List (List ℕ) = slice_split (λ b. eqb b 44) c.args.text.now in
    let n : ℕ = length c.loop-piece.yielded in
    let t : (n < length pieces) × (c.in-Some.piece.now ≡ get_or pieces n c.in-Some.piece.now) =
    YieldsList-turn (YieldsList-at c.into_iter-piece-iterator.ensures.into_iter_gives (YieldsList-from_slice_split _ (λ b. eqb b 44) c.args.text.now c.split-piece-items.ensures.rest c.split-piece-items.ensures.done c.split-piece-items.ensures.closure (λ x r q k. search (rules, tests)))) c.loop-piece.yielded _ c.loop-piece.yielded_by _ _ c.in-Some.piece c.in-Some.is c.next.ensures.steps in
    let next : NextPiece pieces n c.in-Some.piece.now = record { within = t.0; is = t.1 } in
    sym (c.loop-piece.invariant ∙ piece_taken pieces n c.in-Some.piece.now c.loop-piece.weights.items next ∙ ap (option_and_then (λ more. weights_from more (drop (n + 1) pieces))) c.in-None-add_weight.ensures)

pub returns : goal.returns
returns c =
    let pieces : List (List ℕ) = slice_split (λ b. eqb b 44) c.args.text.now in
    let t =
    YieldsList-end (YieldsList-at c.into_iter-piece-iterator.ensures.into_iter_gives (YieldsList-from_slice_split _ (λ b. eqb b 44) c.args.text.now c.split-piece-items.ensures.rest c.split-piece-items.ensures.done c.split-piece-items.ensures.closure (λ x r q k. search (rules, tests)))) c.loop-piece.yielded _ c.loop-piece.yielded_by _ _ c.in-None.is c.next.ensures.steps in
    let all : length pieces ≤ length c.loop-piece.yielded = omega (arith, t.1) in
    sym (c.loop-piece.invariant ∙ all_taken pieces (length c.loop-piece.yielded) c.loop-piece.weights.items all)
