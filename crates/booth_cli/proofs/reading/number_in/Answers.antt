use Rattle.std.proofs.Common.{◌≡◌, ◌∙◌, sym, arith}
use Rattle.std.proofs.lemmas.Fmt.{decimal_injective}
use Rattle.booth_cli.proofs.reading.number_in.Goals as goal

pub returns-else-low-n : goal.returns-else-low-n
returns-else-low-n c = rw c.in-Some.is (λ n h.
    let same : n ≡ c.in-Some-number.n = decimal_injective n c.in-Some-number.n (omega (arith, h.most, c.ranges.high.fits)) c.in-Some-number.ensures.1 (sym h.spelled ∙ c.in-Some-number.ensures.0) in
    absurd (omega (arith, same, h.least, h.most, c.else-low-n.either)))
