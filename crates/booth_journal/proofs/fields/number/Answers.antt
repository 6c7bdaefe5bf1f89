use Rattle.std.specs.Result.{result_unwrap_or}
use Rattle.std.specs.Str.{IsUtf8}
use Rattle.std.specs.Fmt.{decimal}
use Rattle.std.proofs.Common.{◌≡◌, ◌∙◌, ◌<◌, ◌^◌, ℕ, arith, sym, ap, subst, true≢false}
use Rattle.std.proofs.lemmas.Fmt.{IsAscii-decimal, parse-decimal}
use Rattle.std.proofs.lemmas.Str.{IsUtf8-from_ascii}
use Rattle.std.proofs.lemmas.Slice.Eq.{bytes_eq-Decides}
use Rattle.booth_journal.specs.Reading.{SpellsNumber}
use Rattle.booth_journal.proofs.ReadingLemmas.{reads_found, reads_none}
use Rattle.booth_journal.proofs.fields.number.Goals as goal

pub returns-in_default : goal.returns-in_default
returns-in_default c = reads_none (SpellsNumber c.args.text.now) λ n is.
    c.in_default.ensures.cases.0 (subst IsUtf8 (sym is.1) (IsUtf8-from_ascii _ (IsAscii-decimal n is.0)))

pub returns-in_default-parse : goal.returns-in_default-parse
returns-in_default-parse c = reads_none (SpellsNumber c.args.text.now) λ n is.
    let read = parse-decimal 64 n c.in-Ok.word.now c.parse.result is.0 is.0 (c.in-Ok.ensures.cases.0 ∙ is.1) c.parse.ensures.value.0 in
    let bad = sym c.in_default-parse.is ∙ read in
    cc

pub returns-then-eq : goal.returns-then-eq
returns-then-eq c =
    let n : ℕ = c.in-Ok-parse.number in
    let small : n < 2 ^ 64 = omega arith in
    let equal = (bytes_eq-Decides c.format.result.now c.in-Ok.word.now).0 (sym c.if-eq.ensures) in
    reads_found (SpellsNumber c.args.text.now) n (small, sym c.in-Ok.ensures.cases.0 ∙ sym equal ∙ c.format.ensures.text)

pub returns-else-eq : goal.returns-else-eq
returns-else-eq c = reads_none (SpellsNumber c.args.text.now) λ n is.
    let spelled = c.in-Ok.ensures.cases.0 ∙ is.1 in
    let read = parse-decimal 64 n c.in-Ok.word.now c.parse.result is.0 is.0 spelled c.parse.ensures.value.0 in
    let same : c.in-Ok-parse.number ≡ n = ap (λ r. result_unwrap_or r 0) (sym c.in-Ok-parse.is ∙ read) in
    let texts = c.format.ensures.text ∙ ap decimal same ∙ sym spelled in
    let yes = (bytes_eq-Decides c.format.result.now c.in-Ok.word.now).1 texts in
    true≢false (sym yes ∙ sym c.if-eq.ensures)
