-- What is read behind the sync is what the file was.
use Rattle.std.proofs.Common.{◌∙◌, List, ℕ, subst}
use Rattle.booth_rec.specs.Slots.{ReadsAlike}
use Rattle.booth_rec.proofs.ReadLemmas.{reads_alike}
use Rattle.booth_rec.proofs.slots.read_slots.Goals as goal

pub returns-clause-bytes : goal.returns-clause-bytes
returns-clause-bytes g c told =
    let read = c.in_ok-read.ensures.given (c.sync.ensures.tells ∙ told) in
    subst (λ (f : List ℕ). ReadsAlike c.read.new.into f) (c.in_ok-sync.ensures.same told) (reads_alike _ _ _ _ c.blank-bytes.ensures read)
