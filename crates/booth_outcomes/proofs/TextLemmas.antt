-- Lines piece by piece.
use Rattle.std.proofs.Common.{◌≡◌, ℕ, List, ◌++◌, ap, ◌∙◌, append_assoc}

-- two pieces are one
pub two_pieces : (old a b mid new : List ℕ) → mid ≡ old ++ a → new ≡ mid ++ b → new ≡ old ++ (a ++ b)
two_pieces old a b mid new first second = second ∙ ap (λ xs. xs ++ b) first ∙ append_assoc old a b
