-- The places of the pairs in the pool. No public clause cites this module.
use Rattle.std.specs.Prelude.{◌≡◌, ℕ, false, List, ◌∷◌, ◌++◌, map, Option, Some, None}
use Rattle.booth_chain.specs.Pool.{Pool, items_at}
use Rattle.booth_attr.specs.declared.pair.Pair.{Pair}
use Rattle.booth_attr.specs.Lists.{has_name}
use Rattle.booth_attr.specs.Attributes.{Attributes}

-- the pairs, without their nodes
abbrev pub pairs_in : List (ℕ × Pair) → List Pair
pairs_in entries = map (λ entry. entry.1) entries

abbrev pub attributes_of : Pool Pair → Attributes
attributes_of pool = record { lists = map pairs_in pool.lists; spare = pool.spare }

-- The ticket's pair with this name is at this node.
pub record StandsNamed (pool : Pool Pair) (ticket : ℕ) (name : List ℕ) (node : ℕ) : Type 0 where
  pub before : List (ℕ × Pair)
  pub pair : Pair
  pub rest : List (ℕ × Pair)
  pub place : items_at pool ticket ≡ before ++ (node, pair) ∷ rest
  pub named : pair.name ≡ name

-- the node of the ticket's pair with this name, or no pair has it
abbrev pub IsNodeOf : Pool Pair → ℕ → List ℕ → Option ℕ → Type 0
IsNodeOf pool ticket name None = has_name name (pairs_in (items_at pool ticket)) ≡ false
IsNodeOf pool ticket name (Some node) = StandsNamed pool ticket name node
