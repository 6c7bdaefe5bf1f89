-- What is known of the bytes that were read is known of the file.
use Rattle.std.proofs.Common.{List, ℕ, sym, subst}
use Rattle.booth_rec.specs.Holding.{IsHolding}
use Rattle.booth_rec.proofs.ReadLemmas.{known_alike, whole_back}
use Rattle.booth_rec.proofs.slots.look.Goals as goal

pub returns-in-Ok-holding_in-clause-found : goal.returns-in-Ok-holding_in-clause-found
returns-in-Ok-holding_in-clause-found g c told =
    let same = c.in-Ok.ensures.same told in
    let known = known_alike _ _ _ (c.in-Ok.ensures.bytes told) c.in-Ok-holding_in.ensures.ok in (
      same,
      record {
        known = subst (λ (f : List ℕ). IsHolding f c.in-Ok-holding_in.holding) (sym same) known;
        durable = c.in-Ok.ensures.durable told;
      },
    )

pub returns-in-Err-clause-torn : goal.returns-in-Err-clause-torn
returns-in-Err-clause-torn g c told torn =
    (c.in-Ok.ensures.same told, λ whole. c.in-Err.ensures.err (whole_back _ _ (c.in-Ok.ensures.bytes told) whole))
