-- The effect of a node's actions on its host.
use Rattle.std.specs.Prelude.{◌≤◌, ℕ, Bool, List, Option}
use Rattle.booth_base.specs.Tree.{Deeds, Ends, Leads}
use Rattle.booth_host.specs.declared.entry.Entry.{Entry}
use Rattle.booth_host.specs.Past.{GrewSome}

-- The host's past grew by all calls of this tree, the tree's result is this one, and no fault was forgotten.
pub record Led {A H S : Type 0} (past : H → Option (List Entry)) (faults : H → ℕ) (Done : A → Bool → Entry → Type 0)
    (tree : Deeds A S) (left : S) (old new : H) : Type 0 where
  pub grew : GrewSome (λ es. Leads Done tree es (Ends left)) (past old) (past new)
  pub later : faults old ≤ faults new
