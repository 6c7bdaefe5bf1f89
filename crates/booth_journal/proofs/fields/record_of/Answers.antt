use Rattle.std.specs.Prelude.{Err}
use Rattle.std.proofs.Common.{◌∙◌, ap, subst, sym}
use Rattle.booth_rec.specs.Spelling.{Spells}
use Rattle.booth_journal.specs.Reading.{SpellsRecord}
use Rattle.booth_journal.proofs.ReadingLemmas.{no_bytes_of, reads_none, record_fault}
use Rattle.booth_journal.proofs.fields.record_of.Goals as goal

pub returns-in-Ok : goal.returns-in-Ok
returns-in-Ok c =
    reads_none (SpellsRecord c.args.text.now)
    (no_bytes_of c.args.text.now c.in-Ok.bytes.items c.in-Ok.ensures.found.1 c.in-Ok.ensures.found.0 λ kept spells.
    let read = c.decode.ensures.again kept (subst (λ b. Spells b kept) (sym c.deref.ensures.value) spells) in
    let bad = sym c.in-Err-decode.is ∙ read in
    cc)

pub returns : goal.returns
returns c = record_fault c.args.text.now c.in-Err.fault (λ is. c.in-Err.ensures.none (ap Err is))
