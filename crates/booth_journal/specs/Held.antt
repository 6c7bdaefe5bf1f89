-- The content of a sink.
use Rattle.std.specs.Prelude.{◌≡◌, ℕ, List, ◌++◌, take, Option, None, Some, IsSome}

-- the content with these bytes after it, if it is recorded
abbrev pub with_bytes : Option (List ℕ) → List ℕ → Option (List ℕ)
with_bytes None more = None
with_bytes (Some held) more = Some (held ++ more)

-- the content is recorded afterwards only if it was before, and these bytes were added
pub record HoldsMore (before after : Option (List ℕ)) (more : List ℕ) : Type 0 where
  pub more_held : IsSome after → after ≡ with_bytes before more

-- the same with some first part of these bytes
pub record HoldsPart (before after : Option (List ℕ)) (more : List ℕ) : Type 0 where
  pub part_held : IsSome after → (n : ℕ) × (after ≡ with_bytes before (take n more))
