use Rattle.std.specs.Fmt.{signed_decimal}
use Rattle.std.proofs.Common.{◌≡◌, ◌∙◌, ap, append_assoc, ◌++◌, arith, List, ℕ, codes, to_z, of_z, w32}
use Rattle.std.proofs.lemmas.Int.{to_z-of_z}
use Rattle.booth_log.proofs.texts.put_status_text.Goals as goal

pub returns-clause-bytes : goal.returns-clause-bytes
returns-clause-bytes c =
    let as_passed : to_z w32 (of_z w32 c.args.status) ≡ c.args.status = grind (arith, to_z-of_z) in
    c.put_status.ensures.bytes ∙ ap (λ z. c.put.new.self ++ signed_decimal z) as_passed
    ∙ ap (λ (l : List ℕ). l ++ signed_decimal c.args.status) c.put.ensures
    ∙ append_assoc c.args.line.now (codes "its handler ended with status ") (signed_decimal c.args.status)
