use Rattle.std.proofs.Common.{◌∙◌, ap, refl}
use Rattle.hex.specs.Hex.{encode_lower}
use Rattle.booth_journal.proofs.FieldLemmas.{octets_never, octets_of, octets_otherwise}
use Rattle.booth_journal.proofs.ReadingLemmas.{fault_is}
use Rattle.booth_journal.proofs.fields.octets.Goals as goal

pub returns-in-Err-clause-none : goal.returns-in-Err-clause-none
returns-in-Err-clause-none c = λ is.
    octets_never c.args.text.now c.in-Err.error c.in-Err.ensures.err (c.fault_of.ensures (fault_is _ _ _ refl is))

pub returns-then-eq-clause-found : goal.returns-then-eq-clause-found
returns-then-eq-clause-found c =
    octets_of c.args.text.now c.in-Ok.bytes.items c.as_bytes.result.now c.in-Ok.ensures.ok
    (c.as_bytes.ensures.value ∙ c.in-Ok-encode.ensures ∙ ap encode_lower c.as_slice.ensures.value) c.if-eq.ensures

pub returns-else-eq-clause-none : goal.returns-else-eq-clause-none
returns-else-eq-clause-none c = λ is.
    octets_otherwise c.args.text.now c.in-Ok.bytes.items c.as_bytes.result.now c.in-Ok.ensures.ok
    (c.as_bytes.ensures.value ∙ c.in-Ok-encode.ensures ∙ ap encode_lower c.as_slice.ensures.value) c.if-eq.ensures
