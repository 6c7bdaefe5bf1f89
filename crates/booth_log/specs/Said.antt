-- The lines that a sink has recorded.
use Rattle.std.specs.Prelude.{◌≡◌, ℕ, List, ◌++◌, Option, None, Some, IsSome, if◌then◌else◌}
use Rattle.booth_log.specs.declared.memory_lines.MemoryLines.{MemoryLines}

-- the lines with these after them, if lines are recorded
abbrev pub with_lines : Option (List (List ℕ)) → List (List ℕ) → Option (List (List ℕ))
with_lines None more = None
with_lines (Some said) more = Some (said ++ more)

-- lines are recorded afterwards only if they were before, and these lines were added
pub record SaidMore (before after : Option (List (List ℕ))) (more : List (List ℕ)) : Type 0 where
  pub more_said : IsSome after → after ≡ with_lines before more

-- all lines so far, or none if they are no longer recorded
abbrev pub told_lines : MemoryLines → Option (List (List ℕ))
told_lines lines = if lines.tells then Some lines.said.items else None
