-- What the four slots hold makes what is known of the file.
use Rattle.std.proofs.Common.{ℕ, sym, subst}
use Rattle.booth_rec.specs.declared.record_file.Holding.{Holding}
use Rattle.booth_rec.specs.RecordFile.{slot_at, first_slot, second_slot}
use Rattle.booth_rec.specs.Holding.{Holds, IsHolding}
use Rattle.booth_rec.proofs.KnownLemmas.{known, holds_record}
use Rattle.booth_rec.proofs.record_file.holding_in.Goals as goal

pub returns-clause-ok : goal.returns-clause-ok
returns-clause-ok c =
    let f = c.args.bytes.now in
    let a = c.in_ok-old_first.ensures.ok in
    let b = c.in_ok-old_second.ensures.ok in
    let first : Holds (second_slot 128 f) c.in_ok-first.first = subst (λ (p : ℕ). Holds (slot_at p 64 f) c.in_ok-first.first) c.place.ensures c.in_ok-first.ensures.ok in
    let second : Holds (second_slot 256 f) c.in_ok-second.second = subst (λ (p : ℕ). Holds (slot_at p 64 f) c.in_ok-second.second) c.place-2.ensures c.in_ok-second.ensures.ok in
    subst (λ (holding : Holding). IsHolding f holding) (sym c.known_of.ensures) (
    known f c.in_ok-old_first.old_first c.in_ok-old_second.old_second c.in_ok-first.first c.in_ok-second.second a b first second
    (record {
      old_first = holds_record (first_slot 0 f) c.in_ok-old_first.old_first a;
      old_second = holds_record (first_slot 64 f) c.in_ok-old_second.old_second b;
      first = holds_record (second_slot 128 f) c.in_ok-first.first first;
      second = holds_record (second_slot 256 f) c.in_ok-second.second second;
    })
    )
