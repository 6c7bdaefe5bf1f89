-- What spells a clock has its length, and is the spelling of what is read.
use Rattle.std.proofs.Common.{◌≡◌, ◌∙◌, sym, ap, Some}
use Rattle.std.proofs.lemmas.Bool.{false≢true}
use Rattle.booth_clock.specs.declared.kept.KeptClock.{KeptClock}
use Rattle.booth_clock.specs.Kept.{spelling}
use Rattle.booth_clock.proofs.KeptLemmas.{length_of, read_back}
use Rattle.booth_clock.proofs.kept.KeptClock.decode.Goals as goal

pub returns-then-bytes-ne-KEPT_BYTES-clause-again : goal.returns-then-bytes-ne-KEPT_BYTES-clause-again
returns-then-bytes-ne-KEPT_BYTES-clause-again c = λ kept spells. absurd (c.if-bytes-ne-KEPT_BYTES.true (length_of c.args.bytes.now kept spells))

pub returns-then-is_spelled_by-clause-again : goal.returns-then-is_spelled_by-clause-again
returns-then-is_spelled_by-clause-again c = λ kept spells.
    rw (c.copy_from_slice.ensures.after, c.long_at.ensures, c.long_at-2.ensures) (ap Some (read_back c.args.bytes.now kept spells))

pub returns-else-is_spelled_by-clause-again : goal.returns-else-is_spelled_by-clause-again
returns-else-is_spelled_by-clause-again c = λ kept spells.
    let found : KeptClock = record { boot = record { 0 = c.copy_from_slice.new.self }; offset = c.long_at.result; reached = c.long_at-2.result } in
    let read : found ≡ kept = rw (c.copy_from_slice.ensures.after, c.long_at.ensures, c.long_at-2.ensures) (read_back c.args.bytes.now kept spells) in
    absurd (false≢true (c.if-is_spelled_by.ensures.1 (spells.spelled ∙ sym (ap spelling read))))
