-- The record of a host's calls.
use Rattle.std.specs.Prelude.{◌≡◌, List, ◌++◌, Option, None, Some, IsSome}
use Rattle.booth_host.specs.declared.entry.Entry.{Entry}

-- the calls with these entries after them, if calls are recorded
abbrev pub grown : Option (List Entry) → List Entry → Option (List Entry)
grown None entries = None
grown (Some past) entries = Some (past ++ entries)

-- calls are recorded afterwards only if they were before, and these entries were added
pub record GrewBy (before after : Option (List Entry)) (entries : List Entry) : Type 0 where
  pub grew : IsSome after → after ≡ grown before entries

-- calls are recorded afterwards only if they were before, and entries with the property P were added
pub record GrewSome (P : List Entry → Type 0) (before after : Option (List Entry)) : Type 0 where
  pub grew : IsSome after → (entries : List Entry) × (after ≡ grown before entries) × P entries
