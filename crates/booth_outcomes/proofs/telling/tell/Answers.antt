use Rattle.std.proofs.Common.{◌==◌, ℕ, List, length, sym, ap, ◌∙◌}
use Rattle.booth_outcomes.proofs.TellingLemmas.{told}
use Rattle.booth_outcomes.proofs.telling.tell.Goals as goal

pub returns-then-not-is_empty-clause-past : goal.returns-then-not-is_empty-clause-past
returns-then-not-is_empty-clause-past g c =
    told c.args.program c.args.line.now _ c.err.result
    (λ none.
    let some = sym c.if-not-is_empty.true ∙ c.is_empty.ensures in
    let over = ap (λ (bytes : List ℕ). length bytes == 0) (c.bytes.ensures ∙ none) in
    cc)
    (c.deref.ensures.0 ∙ c.spoken.ensures) c.err.ensures.past
