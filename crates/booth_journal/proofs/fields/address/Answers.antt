use Rattle.std.proofs.Common.{◌∙◌}
use Rattle.booth_journal.specs.Reading.{SpellsAddress}
use Rattle.booth_journal.proofs.FieldLemmas.{never_shown, shown_otherwise}
use Rattle.booth_journal.proofs.ReadingLemmas.{reads_none}
use Rattle.booth_journal.proofs.fields.address.Goals as goal

pub returns-in_default : goal.returns-in_default
returns-in_default c = reads_none (SpellsAddress c.args.text.now) (never_shown c.args.text.now c.in_default.ensures)

pub returns-else-eq : goal.returns-else-eq
returns-else-eq c =
    reads_none (SpellsAddress c.args.text.now)
    (shown_otherwise c.args.text.now c.as_bytes.result.now c.in-Ok.address c.in-Ok.ensures
    (c.as_bytes.ensures.value ∙ c.deref.ensures.0 ∙ c.print.ensures) c.if-eq.ensures)
