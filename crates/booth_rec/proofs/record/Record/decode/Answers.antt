-- A record that is spelled in the bytes is read back as it is; other bytes are told by spelling again what was read.
use Rattle.std.proofs.Common.{◌≡◌, ◌⊎◌, inl, inr, ⊎_elim, ◌∙◌, ap, sym, refl, length, false, true, Ok}
use Rattle.booth_rec.specs.declared.record.Record.{Record}
use Rattle.booth_rec.proofs.SpellingLemmas.{format, read_back, is_record, spells_so, no_record_here, other_version, has_format, version_of}
use Rattle.booth_rec.proofs.record.Record.decode.Goals.{else-bytes-ne-FIRST_BYTES-via-then-bytes-ne-FIRST_BYTES+else-bytes-ne-SECOND_BYTES, else-bytes-ne-FIRST_BYTES-via-else-bytes-ne-FIRST_BYTES}
use Rattle.booth_rec.proofs.record.Record.decode.Goals as goal

untrue : false ≡ true → ⊥
untrue e = cc

pub returns-then-bytes-ne-SECOND_BYTES-clause-again : goal.returns-then-bytes-ne-SECOND_BYTES-clause-again
returns-then-bytes-ne-SECOND_BYTES-clause-again c kept spells = absurd (
    ⊎_elim (λ first. c.if-bytes-ne-FIRST_BYTES.true first.0) (λ second. c.if-bytes-ne-SECOND_BYTES.true second.0) (format c.args.bytes.now kept spells)
    )

pub returns-then-word_at-record-clause-reads : goal.returns-then-word_at-record-clause-reads
returns-then-word_at-record-clause-reads c =
    let size : (length c.args.bytes.now ≡ 32) ⊎ (length c.args.bytes.now ≡ 64) = elim c.else-bytes-ne-FIRST_BYTES.branch [ else-bytes-ne-FIRST_BYTES-via-then-bytes-ne-FIRST_BYTES+else-bytes-ne-SECOND_BYTES w ↦ inr w.if-bytes-ne-SECOND_BYTES.false | else-bytes-ne-FIRST_BYTES-via-else-bytes-ne-FIRST_BYTES w ↦ inl w.if-bytes-ne-FIRST_BYTES.false ] in
    other_version c.args.bytes.now c.record_in-record.result c.record_in-record.ensures.same size (λ same. c.if-word_at-record.true (c.word_at.ensures ∙ same))

pub returns-then-word_at-record-clause-again : goal.returns-then-word_at-record-clause-again
returns-then-word_at-record-clause-again c kept spells = absurd (c.if-word_at-record.true (
    c.word_at.ensures ∙ version_of c.args.bytes.now c.record_in-record.result c.record_in-record.ensures.same (format c.args.bytes.now kept spells)
    ))

pub returns-then-is_spelled_by-clause-reads : goal.returns-then-is_spelled_by-clause-reads
returns-then-is_spelled_by-clause-reads c =
    spells_so c.args.bytes.now c.record_in-record.result c.record_in-record.ensures.same c.record_in-record.ensures.fits (c.if-is_spelled_by.ensures.0 refl)

pub returns-then-is_spelled_by-clause-again : goal.returns-then-is_spelled_by-clause-again
returns-then-is_spelled_by-clause-again c kept spells =
    ap (λ (r : Record). Ok r) (c.record_in-record.ensures.same ∙ read_back c.args.bytes.now kept spells)

pub returns-else-is_spelled_by-clause-reads : goal.returns-else-is_spelled_by-clause-reads
returns-else-is_spelled_by-clause-reads c =
    let size : (length c.args.bytes.now ≡ 32) ⊎ (length c.args.bytes.now ≡ 64) = elim c.else-bytes-ne-FIRST_BYTES.branch [ else-bytes-ne-FIRST_BYTES-via-then-bytes-ne-FIRST_BYTES+else-bytes-ne-SECOND_BYTES w ↦ inr w.if-bytes-ne-SECOND_BYTES.false | else-bytes-ne-FIRST_BYTES-via-else-bytes-ne-FIRST_BYTES w ↦ inl w.if-bytes-ne-FIRST_BYTES.false ] in
    inr (
      has_format c.args.bytes.now c.record_in-record.result c.record_in-record.ensures.same size (sym c.word_at.ensures ∙ c.if-word_at-record.false),
      no_record_here c.args.bytes.now c.record_in-record.result c.record_in-record.ensures.same (λ e. untrue (c.if-is_spelled_by.ensures.1 e)),
    )

pub returns-else-is_spelled_by-clause-again : goal.returns-else-is_spelled_by-clause-again
returns-else-is_spelled_by-clause-again c kept spells = absurd (
    no_record_here c.args.bytes.now c.record_in-record.result c.record_in-record.ensures.same (λ e. untrue (c.if-is_spelled_by.ensures.1 e))
    (is_record c.args.bytes.now kept spells)
    )
