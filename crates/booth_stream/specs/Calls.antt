-- The record of the calls of links.
use Rattle.std.specs.Prelude.{◌≡◌, List, ◌++◌, Option, None, Some, IsSome}
use Rattle.booth_stream.specs.declared.link_call.LinkCall.{LinkCall}

-- the calls with these after them, if calls are recorded
abbrev pub with_calls : Option (List LinkCall) → List LinkCall → Option (List LinkCall)
with_calls None more = None
with_calls (Some past) more = Some (past ++ more)

-- calls are recorded afterwards only if they were before, and these calls were added
pub record CallsGrewBy (before after : Option (List LinkCall)) (more : List LinkCall) : Type 0 where
  pub grew : IsSome after → after ≡ with_calls before more
