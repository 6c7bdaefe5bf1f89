-- The reads of a start whose records may not have been written, read by read.
use Rattle.std.specs.Prelude.{length, Option, None}
use Rattle.std.specs.Option.{option_map_or}
use Rattle.std.proofs.Common.{◌≡◌, ◌≤◌, ◌<◌, ◌+◌, ℕ, List, [], ◌++◌, append_assoc, append-nil, drop, get_or, sym, ◌∙◌, ap}
use Rattle.std.proofs.lemmas.List.{drop_more}
use Rattle.std.proofs.lemmas.Option.{slice_get_past}
use Rattle.booth_rec.specs.declared.record.Record.{Record}
use Rattle.booth_rec.specs.Record.{record_or_none}
use Rattle.booth_audit.specs.declared.silent.Unwritten.{Unwritten}
use Rattle.booth_audit.specs.Faults.{answer_line}
use Rattle.booth_audit.specs.Silent.{unwritten_at, unwritten_from, unwritten_read}

-- behind the last ticket there is no read
pub unwritten_past : (all : List (List Record)) (ticket line : ℕ) (found : Option Record) (reads : List Unwritten)
    → length all ≤ ticket → reads ≡ reads ++ unwritten_at all ticket line found
unwritten_past all ticket line found reads past =
    sym (append-nil reads)
    ∙ ap (λ (o : Option (List Record)).
    reads ++ option_map_or (λ (may : List Record). unwritten_read ticket line may (record_or_none found)) o [])
    (sym (slice_get_past all ticket past))

-- one more read
pub more_unwritten : (all : List (List Record)) (records : List (Option Record)) (last ticket line : ℕ)
    (reads : List Unwritten) {then_reads first : List Unwritten} → ticket < length records
    → line ≡ answer_line (length records) ticket last
    → then_reads ≡ reads ++ unwritten_at all ticket line (get_or records ticket None)
    → reads ++ unwritten_from all (length records) last ticket (drop ticket records) ≡ first
    → then_reads ++ unwritten_from all (length records) last (ticket + 1) (drop (ticket + 1) records) ≡ first
more_unwritten all records last ticket line reads below line_is is so_far =
    let left = unwritten_from all (length records) last (ticket + 1) (drop (ticket + 1) records) in
    let found = get_or records ticket None in
    ap (λ (l : List Unwritten). l ++ left) is
    ∙ append_assoc reads (unwritten_at all ticket line found) left
    ∙ ap (λ (n : ℕ). reads ++ (unwritten_at all ticket n found ++ left)) line_is
    ∙ ap (λ (l : List (Option Record)). reads ++ unwritten_from all (length records) last ticket l)
    (sym (drop_more records ticket None below))
    ∙ so_far
