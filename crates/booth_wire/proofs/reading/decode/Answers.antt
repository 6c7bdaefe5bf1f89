use Rattle.std.proofs.Common.{arith, subst, sym}
use Rattle.booth_wire.specs.Reading.{Gives}
use Rattle.booth_wire.proofs.AgainLemmas.{is_read, none_spelled}
use Rattle.booth_wire.proofs.FaultLemmas.{of_read_head}
use Rattle.booth_wire.proofs.FoundLemmas.{message_spells, message_fits, message_len}
use Rattle.booth_wire.proofs.reading.decode.Goals as goal

pub returns-in-Ok-clause-found : goal.returns-in-Ok-clause-found
returns-in-Ok-clause-found c =
    message_spells c.args.bytes.now c.read_behind.result (λ i. omega (arith, c.type_inv.bytes i)) c.read_behind.ensures

pub returns-in-Ok-clause-fits : goal.returns-in-Ok-clause-fits
returns-in-Ok-clause-fits c =
    message_fits c.args.bytes.now c.read_behind.result (λ i. omega (arith, c.type_inv.bytes i)) c.read_behind.ensures

pub returns-in-Ok-clause-len : goal.returns-in-Ok-clause-len
returns-in-Ok-clause-len c =
    message_len c.args.bytes.now c.read_behind.result (λ i. omega (arith, c.type_inv.bytes i)) c.read_behind.ensures

pub returns-in-Ok-clause-only : goal.returns-in-Ok-clause-only
returns-in-Ok-clause-only c = λ l fits spells.
    subst (λ r. Gives c.read_behind.result r) (is_read c.args.bytes.now l fits spells) c.read_behind.ensures

pub returns-in-Err-clause-only : goal.returns-in-Err-clause-only
returns-in-Err-clause-only c = λ l fits spells.
    let refused = of_read_head c.args.bytes.now c.in-Err.fault (sym c.in-Err.ensures.value) in
    absurd (none_spelled c.args.bytes.now c.in-Err.fault refused l fits spells)
