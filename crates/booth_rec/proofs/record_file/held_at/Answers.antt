use Rattle.std.proofs.Common.{◌∙◌, ◌+◌, ◌≤◌, ℕ, List, length, sym, subst, arith}
use Rattle.booth_rec.specs.Spelling.{Spells, IsRecord}
use Rattle.booth_rec.proofs.FileLemmas.{number_within, body_of, gate_open, gate_closed}
use Rattle.booth_rec.proofs.record_file.held_at.Goals as goal

pub returns-then-bytes-place-ne-OPEN-clause-ok : goal.returns-then-bytes-place-ne-OPEN-clause-ok
returns-then-bytes-place-ne-OPEN-clause-ok c = gate_closed c.args.place c.args.size c.args.bytes.now c.if-bytes-place-ne-OPEN.true

pub returns-in-Ok-clause-ok : goal.returns-in-Ok-clause-ok
returns-in-Ok-clause-ok c =
    let within : c.args.place + 16 ≤ length c.args.bytes.now = omega (arith, c.requires) in (
      gate_open c.args.place c.args.size c.args.bytes.now c.if-bytes-place-ne-OPEN.false,
      number_within c.args.place c.args.size c.args.bytes.now within ∙ sym c.long_at-number.ensures,
      subst (λ (l : List ℕ). Spells l c.in-Ok.kept) (sym (body_of c.args.place c.args.size c.args.bytes.now)) c.in-Ok.ensures.ok,
    )

pub returns-in-Err-clause-err : goal.returns-in-Err-clause-err
returns-in-Err-clause-err c holds =
    let body = body_of c.args.place c.args.size c.args.bytes.now in
    let is = holds (gate_open c.args.place c.args.size c.args.bytes.now c.if-bytes-place-ne-OPEN.false) in
    c.in-Err.ensures.err (subst (λ (l : List ℕ). IsRecord l) body is)
