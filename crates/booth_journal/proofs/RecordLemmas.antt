-- A record of version 1, put piece by piece.
use Rattle.std.specs.Prelude.{if◌then◌else◌, is_some, Option, Some, None}
use Rattle.std.proofs.Common.{◌≡◌, ℕ, List, ◌++◌, refl, sym, ◌∙◌, ap, append_assoc}
use Rattle.hex.specs.Hex.{encode_lower}
use Rattle.booth_rec.specs.declared.record.Lease.{Lease}
use Rattle.booth_rec.specs.declared.record.Record.{Record}
use Rattle.booth_rec.specs.Spelling.{first_spelling, lease_fields, long, word, zeros}
use Rattle.booth_journal.specs.Lines.{fields_of}
use Rattle.booth_journal.proofs.HexLemmas.{encode_append}

lease_spelled : (lease : Option Lease) → word (fields_of lease).term ++ long (fields_of lease).until ≡ lease_fields lease
lease_spelled None = refl
lease_spelled (Some lease) = refl

-- one piece more
more : (d x y draft after : List ℕ) → draft ≡ d ++ encode_lower x → after ≡ draft ++ encode_lower y → after ≡ d ++ encode_lower (x ++ y)
more d x y draft after was is =
    is ∙ ap (λ l. l ++ encode_lower y) was ∙ append_assoc d (encode_lower x) (encode_lower y)
    ∙ ap (λ l. d ++ l) (sym (encode_append x y))

-- the fields of a record of version 1, one behind the other
pub first_put : (d d1 d2 d3 d4 d5 d6 : List ℕ) (kept : Record) → d1 ≡ d ++ encode_lower (word 1)
    → d2 ≡ d1 ++ encode_lower (word kept.term) → d3 ≡ d2 ++ encode_lower (word (if is_some kept.lease then 1 else 0))
    → d4 ≡ d3 ++ encode_lower (word (fields_of kept.lease).term) → d5 ≡ d4 ++ encode_lower (long (fields_of kept.lease).until)
    → d6 ≡ d5 ++ encode_lower (zeros 8) → d6 ≡ d ++ encode_lower (first_spelling kept)
first_put d d1 d2 d3 d4 d5 d6 kept p1 p2 p3 p4 p5 p6 =
    let a = word 1 in
    let b = word kept.term in
    let c = word (if is_some kept.lease then 1 else 0) in
    let e = word (fields_of kept.lease).term in
    let f = long (fields_of kept.lease).until in
    let q2 = more d a b d1 d2 p1 p2 in
    let q3 = more d (a ++ b) c d2 d3 q2 p3 in
    let q4 = more d ((a ++ b) ++ c) e d3 d4 q3 p4 in
    let q5 = more d (((a ++ b) ++ c) ++ e) f d4 d5 q4 p5 in
    let q6 = more d ((((a ++ b) ++ c) ++ e) ++ f) (zeros 8) d5 d6 q5 p6 in
    q6 ∙ ap (λ l. d ++ encode_lower (l ++ zeros 8)) (append_assoc ((a ++ b) ++ c) e f
    ∙ ap (λ l. ((a ++ b) ++ c) ++ l) (lease_spelled kept.lease))
