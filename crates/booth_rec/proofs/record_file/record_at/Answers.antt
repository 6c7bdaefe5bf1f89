-- The bytes at the place are those that are decoded.
use Rattle.std.proofs.Common.{◌≡◌, ◌+◌, ◌-◌, ◌≤◌, ◌∙◌, ℕ, List, length, take, drop, ap, sym, subst, arith, Ok, Err, Result, IfOk, OnErr}
use Rattle.booth_rec.specs.declared.record.Record.{Record}
use Rattle.booth_rec.specs.declared.spelling.RecordFault.{RecordFault}
use Rattle.booth_rec.specs.Spelling.{Reads, Spells, IsRecord}
use Rattle.booth_rec.specs.RecordFile.{bytes_at}
use Rattle.booth_rec.proofs.FileLemmas.{bytes_within}
use Rattle.booth_rec.proofs.SpellingLemmas.{refused}
use Rattle.booth_rec.proofs.record_file.record_at.Goals as goal

-- the bytes of a place, as the slice of them says it
here : (at n : ℕ) (bytes : List ℕ) → at + n ≤ length bytes → take (at + n - at) (drop at bytes) ≡ bytes_at at n bytes
here at n bytes fits =
    let e : at + n - at ≡ n = omega arith in ap (λ (k : ℕ). take k (drop at bytes)) e ∙ sym (bytes_within n at bytes fits)

spelled : (bytes : List ℕ) (r : Result Record RecordFault) → Reads bytes r → IfOk r (Spells bytes)
spelled bytes (Ok kept) reads = reads
spelled bytes (Err fault) reads = tt

none : (bytes : List ℕ) (r : Result Record RecordFault) → Reads bytes r → OnErr r (IsRecord bytes → ⊥)
none bytes (Ok kept) reads = tt
none bytes (Err fault) reads = refused bytes fault reads

pub returns-clause-ok : goal.returns-clause-ok
returns-clause-ok c =
    spelled _ _ (subst (λ (l : List ℕ). Reads l c.decode.result) (here c.args.at c.args.size c.args.bytes.now c.requires) c.decode.ensures.reads)

pub returns-clause-err : goal.returns-clause-err
returns-clause-err c =
    none _ _ (subst (λ (l : List ℕ). Reads l c.decode.result) (here c.args.at c.args.size c.args.bytes.now c.requires) c.decode.ensures.reads)
