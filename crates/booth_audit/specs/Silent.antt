-- The silent starts that an audit reports: the starts that read a record which their member may not have written.
use Rattle.std.specs.Prelude.{◌+◌, ◌++◌, ℕ, Bool, List, [], ◌∷◌, length, map, slice_get, Option, if◌then◌else◌}
use Rattle.std.specs.List.{list_any}
use Rattle.std.specs.Option.{option_map_or}
use Rattle.booth_conf.specs.declared.tickets.TicketConf.{TicketConf}
use Rattle.booth_node.specs.Records.{may_after_all}
use Rattle.booth_node.specs.Session.{SessionEntry, Starts}
use Rattle.booth_rec.specs.contracts.record.RecordPartialEq.TheImpl as equality
use Rattle.booth_rec.specs.declared.record.Record.{Record}
use Rattle.booth_rec.specs.Record.{no_record, record_or_none}
use Rattle.booth_audit.specs.declared.silent.SilentStart.{SilentStart}
use Rattle.booth_audit.specs.declared.silent.Unwritten.{Unwritten}
use Rattle.booth_audit.specs.Faults.{Heard, answer_line}
use Rattle.booth_audit.specs.Replay.{Event}

-- This record is one of them, by `==` of the type.
abbrev pub is_among : List Record → Record → Bool
is_among may kept = list_any (λ (other : Record). equality.eq-value.it other kept) may

-- ---- one start

-- The read of a ticket's record, if the record is none of these. The answer is at this line.
abbrev pub unwritten_read : ℕ → ℕ → List Record → Record → List Unwritten
unwritten_read ticket line may kept =
    if is_among may kept then [] else record { ticket = ticket; line = line; term = kept.term } ∷ []

-- The same for the ticket with this index, with the records that may have been written for each ticket.
abbrev pub unwritten_at : List (List Record) → ℕ → ℕ → Option Record → List Unwritten
unwritten_at all ticket line found =
    option_map_or (λ (may : List Record). unwritten_read ticket line may (record_or_none found))
    (slice_get all ticket) []

-- The same for all tickets from this place on. The start has this many tickets and this line.
abbrev pub unwritten_from : List (List Record) → ℕ → ℕ → ℕ → List (Option Record) → List Unwritten
unwritten_from all count last ticket [] = []
unwritten_from all count last ticket (found ∷ records) =
    unwritten_at all ticket (answer_line count ticket last) found
    ++ unwritten_from all count last (ticket + 1) records

-- ---- one journal

-- The records that a member may have written for each ticket, in file order, after these entries.
abbrev pub may_before : List TicketConf → List SessionEntry → List (List Record)
may_before tickets before = map (λ (conf : TicketConf). may_after_all conf.name (no_record ∷ []) before) tickets

-- The reads of an entry, after these entries, of records that its member may not have written.
abbrev pub unwritten_by : List SessionEntry → SessionEntry → ℕ → List Unwritten
unwritten_by before (Starts node reading records) last =
    unwritten_from (may_before node.config.tickets before) (length records) last 0 records
unwritten_by before what last = []

-- The reads of all events after these entries, in the order of the lines.
abbrev pub unwritten_in : List SessionEntry → List Event → List Unwritten
unwritten_in before [] = []
unwritten_in before (event ∷ events) =
    unwritten_by before event.what event.line ++ unwritten_in (before ++ event.what ∷ []) events

-- ---- all journals

-- The silent start with this read, in the journal with this index.
abbrev pub silent_start : ℕ → Unwritten → SilentStart
silent_start journal read =
    record { journal = journal; line = read.line; ticket = read.ticket; term = read.term }

-- The silent starts of all journals, by journals and then by lines. The first journal has this place. Where each start
-- reads only records that it may read, each other read is of a silent record.
abbrev pub silent_starts : ℕ → List Heard → List SilentStart
silent_starts journal [] = []
silent_starts journal (heard ∷ more) =
    map (silent_start journal) (unwritten_in [] heard.events) ++ silent_starts (journal + 1) more
