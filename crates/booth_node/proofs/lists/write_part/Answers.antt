use Rattle.std.proofs.Common.{◌≡◌, ◌<◌, ◌+◌, ◌++◌, ℕ, List, [], length, get_or, sym, ap, ◌∙◌, subst, arith}
use Rattle.std.proofs.lemmas.List.{length-map, get_or-map}
use Rattle.std.proofs.lemmas.Grind.{common_steps}
use Rattle.booth_node.specs.Lists.{IsPart}
use Rattle.booth_node.specs.Replies.{list_line, list_lines}
use Rattle.booth_node.proofs.ListLemmas.{Taken, none_taken, one_taken, part_over, part_whole}
use Rattle.booth_node.proofs.lists.write_part.Goals as goal

pub loop-place-init : goal.loop-place-init
loop-place-init c =
    let lines = list_lines c.args.node.now c.args.now c.args.tickets.now in
    record { taken = subst (λ (text : List ℕ). Taken lines 0 text) (sym c.clear.ensures) (none_taken lines) }

pub returns-then-bytes-gt-TEXT_BYTES : goal.returns-then-bytes-gt-TEXT_BYTES
returns-then-bytes-gt-TEXT_BYTES c =
    let line = list_line c.args.node.now.config c.args.now in
    let tickets = c.args.tickets.now in
    let place : ℕ = c.loop-place.place in
    let one = c.index-tickets-place.result in
    let at : get_or tickets place one ≡ one = grind (arith, common_steps, c.index-tickets-place.is) in
    let written = c.put_ticket.ensures.bytes ∙ ap (λ (text : List ℕ). text ++ line one) c.clear-in-loop-place.ensures in
    let below : place < length (list_lines c.args.node.now c.args.now tickets) =
    subst (λ (n : ℕ). place < n) (sym (length-map tickets line)) c.loop-place-test.true in
    let test = c.if-bytes-gt-TEXT_BYTES.true in
    let text_len : length c.bytes.result.now ≡ length c.loop-place.text = ap (λ (t : List ℕ). length t) c.bytes.ensures.value in
    let line_len : length c.bytes-in-loop-place.result.now ≡ length c.put_ticket.new.text =
    ap (λ (t : List ℕ). length t) c.bytes-in-loop-place.ensures.value in
    let short = c.bytes-in-loop-place.ensures.short in
    record {
      part = part_over (list_lines c.args.node.now c.args.now tickets) place c.loop-place.text c.put_ticket.new.text below
          (get_or-map line tickets place one [] c.loop-place-test.true ∙ ap line at ∙ sym written)
          (omega (arith, test, text_len, line_len)) (omega (arith, short, line_len)) c.loop-place.invariant.taken;
    }

pub loop-place-preserved : goal.loop-place-preserved
loop-place-preserved c =
    let line = list_line c.args.node.now.config c.args.now in
    let tickets = c.args.tickets.now in
    let place : ℕ = c.loop-place.place in
    let one = c.index-tickets-place.result in
    let at : get_or tickets place one ≡ one = grind (arith, common_steps, c.index-tickets-place.is) in
    let written = c.put_ticket.ensures.bytes ∙ ap (λ (text : List ℕ). text ++ line one) c.clear-in-loop-place.ensures in
    let below : place < length (list_lines c.args.node.now c.args.now tickets) =
    subst (λ (n : ℕ). place < n) (sym (length-map tickets line)) c.loop-place-test.true in
    let test = c.if-bytes-gt-TEXT_BYTES.false in
    let text_len : length c.bytes.result.now ≡ length c.loop-place.text = ap (λ (t : List ℕ). length t) c.bytes.ensures.value in
    let line_len : length c.bytes-in-loop-place.result.now ≡ length c.put_ticket.new.text =
    ap (λ (t : List ℕ). length t) c.bytes-in-loop-place.ensures.value in
    record {
      taken = subst (λ (text : List ℕ). Taken (list_lines c.args.node.now c.args.now tickets) (place + 1) text)
          (sym (c.put.ensures ∙ ap (λ (text : List ℕ). c.loop-place.text ++ text) c.bytes-in-loop-place-2.ensures.value))
          (one_taken (list_lines c.args.node.now c.args.now tickets) place c.loop-place.text c.put_ticket.new.text below
          (get_or-map line tickets place one [] c.loop-place-test.true ∙ ap line at ∙ sym written)
          (omega (arith, test, text_len, line_len)) c.loop-place.invariant.taken);
    }

pub returns : goal.returns
returns c =
    let lines = list_lines c.args.node.now c.args.now c.args.tickets.now in
    let many = length-map c.args.tickets.now (list_line c.args.node.now.config c.args.now) in
    let over = c.loop-place-test.false in
    let end = c.loop-place.auto.place-end in
    record {
      part = subst (λ (n : ℕ). IsPart lines n c.loop-place.text) many
          (part_whole lines c.loop-place.text
          (subst (λ (n : ℕ). Taken lines n c.loop-place.text) (omega (arith, over, end, many)) c.loop-place.invariant.taken));
    }
