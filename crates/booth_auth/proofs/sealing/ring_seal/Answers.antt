use Rattle.std.proofs.Common.{◌≡◌, ◌++◌, true, false, Some, None, List, ℕ, is_some, sym, ap, ◌∙◌}
use Rattle.std.specs.Option.{option_copied}
use Rattle.booth_wire.specs.PlainMessage.{PlainMessage, plain_of}
use Rattle.booth_wire.specs.Spelling.{before_auth}
use Rattle.booth_auth.specs.Sealed.{auth_part, sealed, stamped}
use Rattle.booth_auth.proofs.SealLemmas.{signed_sealed, unsigned_sealed}
use Rattle.booth_auth.proofs.sealing.ring_seal.Goals as goal

pub returns-in-Some-clause-bytes : goal.returns-in-Some-clause-bytes
returns-in-Some-clause-bytes c =
    let ring = c.in-Some.ring.now in
    let l = plain_of c.stamped-message.result in
    let is = ap option_copied c.in-Some.is in
    let keyed : l.head.auth ≡ true = ap (λ (m : PlainMessage). m.head.auth) c.stamped-message.ensures ∙ ap is_some is in
    c.sign.ensures
    ∙ (ap (λ (bytes : List ℕ). before_auth bytes ++ auth_part ring (before_auth bytes)) c.encode.ensures.bytes
    ∙ (signed_sealed ring l keyed
    ∙ (ap (sealed (Some ring)) c.stamped-message.ensures
    ∙ sym (ap (λ r. sealed r (stamped (option_copied c.args.ring) c.args.now (plain_of c.args.message.now))) is))))

pub returns-in_default-clause-bytes : goal.returns-in_default-clause-bytes
returns-in_default-clause-bytes c =
    let l = plain_of c.stamped-message.result in
    let is = ap option_copied c.in_default.is in
    let plain : l.head.auth ≡ false = ap (λ (m : PlainMessage). m.head.auth) c.stamped-message.ensures ∙ ap is_some is in
    c.encode.ensures.bytes
    ∙ (unsigned_sealed l plain
    ∙ (ap (sealed None) c.stamped-message.ensures
    ∙ sym (ap (λ r. sealed r (stamped (option_copied c.args.ring) c.args.now (plain_of c.args.message.now))) is)))
