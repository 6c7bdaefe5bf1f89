-- When a member of a world holds a ticket.
use Rattle.std.specs.Prelude.{◌≡◌, ℕ, ◌<◌, ◌≤◌, ◌++◌, List, [], ◌∷◌, false}
use Rattle.booth_conf.specs.declared.tickets.TicketConf.{TicketConf}
use Rattle.booth_rec.specs.declared.record.Record.{Record}
use Rattle.booth_rec.specs.Record.{IsInForce}
use Rattle.booth_node.specs.Records.{Has, may_be_kept}
use Rattle.booth_node.specs.World.{WorldEntry, World, IsOneTicket, members_of, entries_of, begins_with, clock_at, last_time}

-- The next entry, if there is one, is not earlier than this time.
abbrev pub IsBefore : ℕ → List WorldEntry → Type 0
IsBefore time [] = Unit {0}
IsBefore time (entry ∷ entries) = time ≤ entry.time

-- A moment of a world: a true time between one entry and the next, or any later time after the last entry.
pub record Moment (w : World) : Type 0 where
  pub before : List WorldEntry
  pub after : List WorldEntry
  pub time : ℕ
  pub whole : w.entries ≡ before ++ after
  pub since : last_time 0 before ≤ time
  pub until : IsBefore time after
  pub within : time < w.span

-- The records that the member may have written for the ticket at this moment.
abbrev pub may_at : (w : World) → TicketConf → ℕ → Moment w → List Record
may_at w ticket m moment =
    may_be_kept ticket.name (begins_with w m ticket.name) (entries_of m moment.before) (entries_of m moment.after)

-- The ticket is automatic.
abbrev pub IsAutomatic : World → TicketConf → Type 0
IsAutomatic w ticket = IsOneTicket w ticket × (ticket.manual ≡ false)

-- A member holds the ticket by a record that it may have written, while the record is in force at the time that the
-- member's clock reads.
abbrev pub HoldsBy : (w : World) → TicketConf → ℕ → Moment w → Record → Type 0
HoldsBy w ticket m moment kept =
    (m < members_of w) × Has (may_at w ticket m moment) kept × IsInForce kept (clock_at w m moment.time)

abbrev pub Holds : (w : World) → TicketConf → ℕ → Moment w → Type 0
Holds w ticket m moment = (kept : Record) × HoldsBy w ticket m moment kept
