use Rattle.std.specs.Result.{result_unwrap_or}
use Rattle.std.specs.Str.{IsUtf8}
use Rattle.std.proofs.Common.{◌≡◌, ◌∙◌, sym, ap, subst, true≢false}
use Rattle.std.proofs.lemmas.Fmt.{IsAscii-decimal, parse-decimal}
use Rattle.std.proofs.lemmas.Str.{IsUtf8-from_ascii}
use Rattle.std.proofs.lemmas.Slice.Eq.{bytes_eq-Decides}
use Rattle.booth_following.proofs.lines.number.Goals as goal

pub returns-in_default : goal.returns-in_default
returns-in_default c n small spelled = c.in_default.ensures.cases.0 (subst IsUtf8 (sym spelled) (IsUtf8-from_ascii _ (IsAscii-decimal n small)))

pub returns-in_default-parse : goal.returns-in_default-parse
returns-in_default-parse c n small spelled =
    let read = parse-decimal 64 n c.in-Ok.word.now c.parse.result small small (c.in-Ok.ensures.cases.0 ∙ spelled) c.parse.ensures.value.0 in
    let bad = sym c.in_default-parse.is ∙ read in
    cc

pub returns-then-eq : goal.returns-then-eq
returns-then-eq c =
    let equal = (bytes_eq-Decides c.format.result.now c.in-Ok.word.now).0 (sym c.if-eq.ensures) in
    sym c.in-Ok.ensures.cases.0 ∙ sym equal ∙ c.format.ensures.text

pub returns-else-eq : goal.returns-else-eq
returns-else-eq c n small is =
    let spelled = c.in-Ok.ensures.cases.0 ∙ is in
    let read = parse-decimal 64 n c.in-Ok.word.now c.parse.result small small spelled c.parse.ensures.value.0 in
    let same : c.in-Ok-parse.number ≡ n = ap (λ r. result_unwrap_or r 0) (sym c.in-Ok-parse.is ∙ read) in
    let texts = c.format.ensures.text ∙ ap Rattle.std.specs.Fmt.decimal same ∙ sym spelled in
    let yes = (bytes_eq-Decides c.format.result.now c.in-Ok.word.now).1 texts in
    absurd (true≢false (sym yes ∙ sym c.if-eq.ensures))
