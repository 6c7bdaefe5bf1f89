-- Bytes that are written in pieces.
use Rattle.std.specs.Prelude.{Option}
use Rattle.std.proofs.Common.{◌≡◌, ℕ, List, [], ◌++◌, refl, sym, ◌∙◌, ap, append_assoc, append-nil, subst, take, drop}
use Rattle.std.proofs.lemmas.List.{take-append-drop}
use Rattle.hex.specs.Hex.{encode_lower, encode_with}
use Rattle.booth_journal.specs.Journal.{Wrote}
use Rattle.booth_journal.specs.declared.journal.Journal.{Journal}
use Rattle.booth_journal.proofs.HexLemmas.{encode_append}
use Rattle.booth_journal.proofs.JournalLemmas.{nothing_wrote, then_wrote}

-- some first bytes were written, and the rest is left
abbrev pub SoFar : {S : Type 0} → (S → Option (List ℕ)) → (S → ℕ) → Journal S → Journal S → List ℕ → List ℕ → Type 0
SoFar held faults old new rest bytes =
    (gone : List ℕ) × (gone ++ rest ≡ bytes) × Wrote held faults old new (encode_lower gone)

none : encode_lower [] ≡ []
unfolding encode_with
none = refl

pub start_pieces : {S : Type 0} (held : S → Option (List ℕ)) (faults : S → ℕ) (a : Journal S) (bytes : List ℕ)
    → SoFar held faults a a bytes bytes
start_pieces {S} held faults a bytes =
    ([], refl, subst (λ (l : List ℕ). Wrote held faults a a l) (sym none) (nothing_wrote held faults a))

pub next_piece : {S : Type 0} (held : S → Option (List ℕ)) (faults : S → ℕ) (a b c : Journal S)
    (piece left rest bytes : List ℕ) → SoFar held faults a b rest bytes → rest ≡ piece ++ left
    → Wrote held faults b c (encode_lower piece) → SoFar held faults a c left bytes
next_piece held faults a b c piece left rest bytes so_far split wrote = (
  so_far.0 ++ piece,
  append_assoc so_far.0 piece left ∙ ap (λ l. so_far.0 ++ l) (sym split) ∙ so_far.1,
  subst (λ (l : List ℕ). Wrote held faults a c l) (sym (encode_append so_far.0 piece)) (then_wrote so_far.2 wrote),
)

pub all_pieces : {S : Type 0} (held : S → Option (List ℕ)) (faults : S → ℕ) (a b : Journal S) (bytes : List ℕ)
    → SoFar held faults a b [] bytes → Wrote held faults a b (encode_lower bytes)
all_pieces held faults a b bytes so_far =
    subst (λ (l : List ℕ). Wrote held faults a b (encode_lower l)) (sym (append-nil so_far.0) ∙ so_far.1) so_far.2

-- both sides of a cut
pub cut_at : (n : ℕ) (rest front back : List ℕ) → front ≡ take n rest → back ≡ drop n rest → rest ≡ front ++ back
cut_at n rest front back first last =
    sym (take-append-drop n rest) ∙ ap (λ l. l ++ drop n rest) (sym first) ∙ ap (λ l. front ++ l) (sym last)
