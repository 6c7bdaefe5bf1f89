use Rattle.std.specs.Prelude.{if◌then◌else◌, is_some}
use Rattle.std.proofs.Common.{◌≡◌, ◌∙◌, ◌++◌, List, ℕ, ap, rules}
use Rattle.hex.specs.Hex.{encode_lower}
use Rattle.booth_rec.specs.declared.record.Lease.{Lease}
use Rattle.booth_rec.specs.Spelling.{long, word, zeros}
use Rattle.booth_journal.proofs.RecordLemmas.{first_put}
use Rattle.booth_journal.proofs.spelling.put_first.Goals as goal

pub returns-clause-bytes : goal.returns-clause-bytes
unfolding word long zeros
returns-clause-bytes c =
    let bits : c.from.result ≡ (if is_some c.args.kept.now.lease then 1 else 0) = search rules in
    first_put c.args.draft.now c.put_hex.new.self c.put_hex-2.new.self c.put_hex-3.new.self c.put_hex-4.new.self
    c.put_hex-5.new.self c.put_hex-6.new.self c.args.kept.now
    (c.put_hex.ensures.bytes ∙ ap (λ (l : List ℕ). c.args.draft.now ++ encode_lower l) c.to_be_bytes.ensures)
    (c.put_hex-2.ensures.bytes ∙ ap (λ (l : List ℕ). c.put_hex.new.self ++ encode_lower l) c.to_be_bytes-2.ensures)
    (c.put_hex-3.ensures.bytes ∙ ap (λ (l : List ℕ). c.put_hex-2.new.self ++ encode_lower l) c.to_be_bytes-3.ensures
    ∙ ap (λ (n : ℕ). c.put_hex-2.new.self ++ encode_lower (word n)) bits)
    (c.put_hex-4.ensures.bytes ∙ ap (λ (l : List ℕ). c.put_hex-3.new.self ++ encode_lower l) c.to_be_bytes-4.ensures
    ∙ ap (λ (l : Lease). c.put_hex-3.new.self ++ encode_lower (word l.term)) c.fields_of-lease.ensures)
    (c.put_hex-5.ensures.bytes ∙ ap (λ (l : List ℕ). c.put_hex-4.new.self ++ encode_lower l) c.to_be_bytes-5.ensures
    ∙ ap (λ (l : Lease). c.put_hex-4.new.self ++ encode_lower (long l.until)) c.fields_of-lease.ensures)
    c.put_hex-6.ensures.bytes
