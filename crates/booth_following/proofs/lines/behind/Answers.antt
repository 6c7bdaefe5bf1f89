use Rattle.std.proofs.Common.{◌∙◌, List, ℕ, length, take, ap, sym, true≢false}
use Rattle.std.proofs.Math.Seq.{take-append_seam}
use Rattle.std.proofs.lemmas.Slice.Eq.{bytes_eq-Decides}
use Rattle.booth_following.proofs.lines.behind.Goals as goal

pub returns-else-eq : goal.returns-else-eq
returns-else-eq c rest e =
    let front =
    c.split_at.ensures.front ∙ ap (λ (bytes : List ℕ). take (length c.args.start.now) bytes) e ∙ take-append_seam c.args.start.now rest in
    true≢false (sym ((bytes_eq-Decides c.split_at.result.0.now c.args.start.now).1 front) ∙ sym c.if-eq.ensures)
