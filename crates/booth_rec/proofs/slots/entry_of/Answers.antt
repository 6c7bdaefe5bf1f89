use Rattle.std.proofs.Common.{◌++◌, List, ℕ, ap}
use Rattle.std.proofs.lemmas.List.{append-nil}
use Rattle.booth_rec.specs.Spelling.{long, spelling}
use Rattle.booth_rec.proofs.slots.entry_of.Goals as goal

-- the number stands before the record, and nothing behind it
pub returns-clause-bytes : goal.returns-clause-bytes
unfolding long
returns-clause-bytes c =
    rw (c.copy_from_slice.ensures.after, c.copy_from_slice-2.ensures.after, c.to_be_bytes.ensures, c.encode.ensures)
    (ap (λ (l : List ℕ). long c.args.number ++ l) (append-nil (spelling c.args.rec)))
