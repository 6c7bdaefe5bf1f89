use Rattle.std.proofs.Common.{subst, sym}
use Rattle.booth_journal.specs.Reading.{SpellsBytes}
use Rattle.booth_journal.proofs.FieldLemmas.{empty_bytes, some_bytes}
use Rattle.booth_journal.proofs.ReadingLemmas.{reads_found, reads_none}
use Rattle.booth_journal.proofs.fields.bytes_of.Goals as goal

pub returns-then-is_nothing : goal.returns-then-is_nothing
returns-then-is_nothing c =
    reads_none (SpellsBytes c.args.text.now) (empty_bytes c.args.text.now c.if-is_nothing.ensures)

pub returns : goal.returns
returns c =
    reads_found (SpellsBytes c.args.text.now) c.from_vec-2.result
    (subst (SpellsBytes c.args.text.now) (sym c.from_vec-2.ensures)
    (some_bytes c.args.text.now c.in_ok-octets.field-0.items c.if-is_nothing.ensures c.in_ok-octets.ensures.found))
