-- The content of a sink in memory.
use Rattle.std.specs.Prelude.{ℕ, List, Option, Some}
use Rattle.booth_journal.specs.declared.memory_sink.MemorySink.{MemorySink}

-- all its bytes are recorded
abbrev pub held_in : MemorySink → Option (List ℕ)
held_in sink = Some sink.bytes.items
