-- The record of a host's calls in memory.
use Rattle.std.specs.Prelude.{List, Option, None, Some, if◌then◌else◌}
use Rattle.booth_host.specs.declared.entry.Entry.{Entry}
use Rattle.booth_host.specs.declared.told.Told.{Told}

-- all calls so far, or none if they are no longer recorded
abbrev pub told_past : Told → Option (List Entry)
told_past told = if told.tells then Some told.entries.items else None
