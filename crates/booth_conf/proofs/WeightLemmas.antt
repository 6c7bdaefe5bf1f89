-- The weights of one more piece.
use Rattle.std.proofs.Common.{◌≡◌, ◌<◌, ◌≤◌, ◌+◌, ℕ, List, ◌∷◌, Some, length, drop, get_or, ap, ◌∙◌, sym}
use Rattle.std.specs.Prelude.{option_and_then}
use Rattle.std.proofs.lemmas.List.{drop_more, drop_all}
use Rattle.booth_conf.specs.ValueReader.{weight_added, weights_from}

-- the piece at place n, which comes next
pub record NextPiece (pieces : List (List ℕ)) (n : ℕ) (piece : List ℕ) : Type 0 where
  pub within : n < length pieces
  pub is : piece ≡ get_or pieces n piece

pub piece_taken : (pieces : List (List ℕ)) (n : ℕ) (piece ws : List ℕ) → NextPiece pieces n piece →
    weights_from ws (drop n pieces) ≡ option_and_then (λ more. weights_from more (drop (n + 1) pieces)) (weight_added ws piece)
piece_taken pieces n piece ws next =
    ap (weights_from ws) (drop_more pieces n piece next.within ∙ ap (λ p. p ∷ drop (n + 1) pieces) (sym next.is))

pub all_taken : (pieces : List (List ℕ)) (n : ℕ) (ws : List ℕ) → length pieces ≤ n →
    weights_from ws (drop n pieces) ≡ Some ws
all_taken pieces n ws h = ap (weights_from ws) (drop_all n pieces h)
