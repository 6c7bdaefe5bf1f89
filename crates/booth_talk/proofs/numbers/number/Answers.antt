use Rattle.std.specs.Result.{result_unwrap_or}
use Rattle.std.specs.Str.{IsUtf8}
use Rattle.std.specs.Str.Parse.{digits_value}
use Rattle.std.proofs.Common.{◌≡◌, ◌∙◌, ◌<◌, ◌^◌, ℕ, arith, sym, ap, subst, true≢false}
use Rattle.std.proofs.lemmas.Fmt.{IsAscii-decimal, decimal_is_IsNumeral, parse-decimal}
use Rattle.std.proofs.lemmas.Str.{IsUtf8-from_ascii}
use Rattle.std.proofs.lemmas.Slice.Eq.{bytes_eq-Decides}
use Rattle.booth_talk.proofs.numbers.number.Goals as goal

pub returns-in_default : goal.returns-in_default
returns-in_default c is =
    c.in_default.ensures.cases.0 (subst IsUtf8 (sym is.spelled) (IsUtf8-from_ascii _ (IsAscii-decimal is.number is.small)))

pub returns-in_default-parse : goal.returns-in_default-parse
returns-in_default-parse c is =
    let read = parse-decimal 64 is.number c.in-Ok.word.now c.parse.result is.small is.small (c.in-Ok.ensures.cases.0 ∙ is.spelled) c.parse.ensures.value.0 in
    let bad = sym c.in_default-parse.is ∙ read in
    cc

pub returns-then-eq : goal.returns-then-eq
returns-then-eq c =
    let n : ℕ = c.in-Ok-parse.number in
    let small : n < 2 ^ 64 = omega arith in
    let equal = (bytes_eq-Decides c.format.result.now c.in-Ok.word.now).0 (sym c.if-eq.ensures) in
    let same = sym c.in-Ok.ensures.cases.0 ∙ sym equal ∙ c.format.ensures.text in (
      record { number = n; small = small; spelled = same },
      sym (decimal_is_IsNumeral n small).1 ∙ ap (digits_value 10) (sym same),
    )

pub returns-else-eq : goal.returns-else-eq
returns-else-eq c is =
    let spelled = c.in-Ok.ensures.cases.0 ∙ is.spelled in
    let read = parse-decimal 64 is.number c.in-Ok.word.now c.parse.result is.small is.small spelled c.parse.ensures.value.0 in
    let same : c.in-Ok-parse.number ≡ is.number = ap (λ r. result_unwrap_or r 0) (sym c.in-Ok-parse.is ∙ read) in
    let texts = c.format.ensures.text ∙ ap Rattle.std.specs.Fmt.decimal same ∙ sym spelled in
    let yes = (bytes_eq-Decides c.format.result.now c.in-Ok.word.now).1 texts in
    absurd (true≢false (sym yes ∙ sym c.if-eq.ensures))
