-- The version is that of the size.
use Rattle.std.proofs.Common.{◌≡◌, ⊎_elim, ◌∙◌, sym, length, rules}
use Rattle.booth_rec.specs.Spelling.{first_record}
use Rattle.booth_rec.proofs.SpellingLemmas.{read_first, read_second}
use Rattle.booth_rec.proofs.spelling.record_in.Goals as goal

pub returns-then-bytes-eq-FIRST_BYTES-clause-same : goal.returns-then-bytes-eq-FIRST_BYTES-clause-same
returns-then-bytes-eq-FIRST_BYTES-clause-same c =
    let first : c.first-first.result ≡ first_record c.args.bytes.now = search rules in
    first ∙ sym (read_first c.args.bytes.now c.if-bytes-eq-FIRST_BYTES.true)

pub returns-clause-same : goal.returns-clause-same
returns-clause-same c =
    let long : length c.args.bytes.now ≡ 64 = ⊎_elim (λ short. absurd (c.if-bytes-eq-FIRST_BYTES.false short)) (λ long. long) c.requires in
    rw (read_second c.args.bytes.now long) (search rules)
