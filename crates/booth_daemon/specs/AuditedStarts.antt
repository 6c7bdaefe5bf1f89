-- The starts that an audit accepts are the starts that worlds have.
use Rattle.std.specs.Prelude.{◌≡◌, ◌<◌, ◌↔◌, ℕ, List}
use Rattle.booth_audit.specs.Faults.{ReadsKept as MayBeAudited}
use Rattle.booth_node.specs.World.{HasConfiguration, HasForm, ReadsKept, World, WorldEntry}
use Rattle.booth_node.specs.World.{begins_with, entries_of, members_of}
use Rattle.booth_rec.specs.Record.{no_record}

-- Suppose that a member of a world begins without a record of any ticket, and has the configuration of the world. An
-- audit of its entries accepts the records that a start reads exactly if the premise `records_return` does.
abbrev pub AuditsAcceptAsWorlds : Type 0
AuditsAcceptAsWorlds =
    (w : World) (before : List WorldEntry) (entry : WorldEntry) → HasForm w → entry.member < members_of w
    → ((name : List ℕ) → begins_with w entry.member name ≡ no_record) → HasConfiguration w entry entry.what
    → MayBeAudited (entries_of entry.member before) entry.what ↔ ReadsKept w before entry entry.what
