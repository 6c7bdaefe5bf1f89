use Rattle.std.specs.Result.{result_unwrap_or}
use Rattle.std.specs.Int.{w32}
use Rattle.std.specs.Str.{IsUtf8}
use Rattle.std.specs.Fmt.{signed_decimal}
use Rattle.std.proofs.Common.{◌≡◌, ◌∙◌, pos, sym, ap, subst, to_z, of_z, to_z-of_z, true≢false}
use Rattle.std.proofs.lemmas.Fmt.{IsAscii-signed, parse-signed_decimal}
use Rattle.std.proofs.lemmas.Str.{IsUtf8-from_ascii}
use Rattle.std.proofs.lemmas.Slice.Eq.{bytes_eq-Decides}
use Rattle.booth_journal.specs.Reading.{SpellsStatus}
use Rattle.booth_journal.proofs.FieldLemmas.{small_status}
use Rattle.booth_journal.proofs.ReadingLemmas.{reads_none}
use Rattle.booth_journal.proofs.fields.status.Goals as goal

pub returns-in_default : goal.returns-in_default
returns-in_default c = reads_none (SpellsStatus c.args.text.now) λ z is.
    c.in_default.ensures.cases.0 (subst IsUtf8 (sym is.1) (IsUtf8-from_ascii _ (IsAscii-signed z (small_status z is.0))))

pub returns-in_default-parse : goal.returns-in_default-parse
returns-in_default-parse c = reads_none (SpellsStatus c.args.text.now) λ z is.
    let read = parse-signed_decimal w32 z c.in-Ok.word.now c.parse.result is.0 (small_status z is.0) (c.in-Ok.ensures.cases.0 ∙ is.1) c.parse.ensures.value.0 in
    let bad = sym c.in_default-parse.is ∙ read in
    cc

pub returns-else-eq : goal.returns-else-eq
returns-else-eq c = reads_none (SpellsStatus c.args.text.now) λ z is.
    let spelled = c.in-Ok.ensures.cases.0 ∙ is.1 in
    let read = parse-signed_decimal w32 z c.in-Ok.word.now c.parse.result is.0 (small_status z is.0) spelled c.parse.ensures.value.0 in
    let same : c.in-Ok-parse.status ≡ z = ap (λ r. result_unwrap_or r (pos 0)) (sym c.in-Ok-parse.is ∙ read) in
    let back : to_z w32 (of_z w32 c.in-Ok-parse.status) ≡ z =
    ap (λ x. to_z w32 (of_z w32 x)) same ∙ to_z-of_z is.0 in
    let texts = c.format.ensures.text ∙ ap signed_decimal back ∙ sym spelled in
    let yes = (bytes_eq-Decides c.format.result.now c.in-Ok.word.now).1 texts in
    true≢false (sym yes ∙ sym c.if-eq.ensures)
