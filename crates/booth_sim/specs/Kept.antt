-- The records that members have on disk, according to their entries.
use Rattle.std.specs.Prelude.{ℕ, List, [], ◌∷◌, map, Option, Some, None, Ok, bytes_eq, if◌then◌else◌}
use Rattle.booth_conf.specs.declared.tickets.TicketConf.{TicketConf}
use Rattle.booth_rec.specs.declared.record.Record.{Record}
use Rattle.booth_host.specs.declared.entry.Entry.TheVariants as calls
use Rattle.booth_node.specs.Session.{SessionEntry, Makes}
use Rattle.booth_node.specs.World.{WorldEntry, entries_of}

-- The record of a ticket after these entries of its member: the record of the last write that succeeded, or else the
-- record before. A failed write leaves the old record.
abbrev pub kept_after : List ℕ → Option Record → List SessionEntry → Option Record
kept_after name kept [] = kept
kept_after name kept (Makes (calls.Keep ticket rec (Ok done)) ∷ entries) =
    kept_after name (if bytes_eq ticket name then Some rec else kept) entries
kept_after name kept (entry ∷ entries) = kept_after name kept entries

-- The record of a ticket at the member with this index. At first there is none.
abbrev pub kept_by : ℕ → List ℕ → List WorldEntry → Option Record
kept_by place name before = kept_after name None (entries_of place before)

-- The records of all tickets at the member with this index.
abbrev pub all_kept : List TicketConf → ℕ → List WorldEntry → List (Option Record)
all_kept tickets place before = map (λ ticket. kept_by place ticket.name before) tickets
