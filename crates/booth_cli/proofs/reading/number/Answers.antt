use Rattle.std.proofs.Common.{◌≡◌, ◌∙◌, sym, ap, true≢false}
use Rattle.std.specs.Result.{result_unwrap_or}
use Rattle.std.proofs.lemmas.Fmt.{parse-decimal}
use Rattle.std.proofs.lemmas.Slice.Eq.{bytes_eq-Decides}
use Rattle.booth_cli.proofs.reading.number.Goals as goal

pub returns-else-eq : goal.returns-else-eq
returns-else-eq c n fits is =
    let read = parse-decimal 64 n c.args.word.now c.parse.result fits fits is c.parse.ensures.value.0 in
    let same : c.in-Ok.number ≡ n = ap (λ r. result_unwrap_or r 0) (sym c.in-Ok.is ∙ read) in
    let texts = c.format.ensures.text ∙ ap Rattle.std.specs.Fmt.decimal same ∙ sym is in
    let yes = (bytes_eq-Decides c.format.result.now c.args.word.now).1 texts in
    absurd (true≢false (sym yes ∙ sym c.if-eq.ensures))

pub returns-in-Err : goal.returns-in-Err
returns-in-Err c n fits is =
    let read = parse-decimal 64 n c.args.word.now c.parse.result fits fits is c.parse.ensures.value.0 in
    let bad = sym c.in-Err.is ∙ read in
    cc
