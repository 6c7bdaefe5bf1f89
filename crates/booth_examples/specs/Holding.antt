-- Tests of the holders of a ticket at a moment of a world.
use Rattle.std.specs.Prelude.{ℕ, Bool, true, false, not, ◌&&◌, ◌||◌, ◌==◌, nat_le, nat_lt, if◌then◌else◌, List, [], ◌∷◌, Option, Some, None, bytes_eq}
use Rattle.std.specs.List.{list_any}
use Rattle.booth_conf.specs.declared.tickets.TicketConf.{TicketConf}
use Rattle.booth_rec.specs.declared.record.Lease.{Lease}
use Rattle.booth_rec.specs.declared.record.Record.{Record}
use Rattle.booth_node.specs.Records.{may_be_kept}
use Rattle.booth_node.specs.Session.{SessionEntry, Starts}
use Rattle.booth_node.specs.World.{World, WorldEntry, members_of, entries_of, begins_with, clock_at}
use Rattle.booth_examples.specs.Checks.{along, each_ticket, config_of}
use Rattle.booth_examples.specs.Fitting.{is_sound}
use Rattle.booth_examples.specs.Same.{same_bool, same_times}

-- ---- the ticket

-- A ticket with the same name has the same kind and times.
abbrev pub is_alike : TicketConf → TicketConf → Bool
is_alike ticket own =
    not (bytes_eq own.name ticket.name)
    || (same_bool own.manual ticket.manual && same_times own.times ticket.times)

abbrev pub starts_with_it : TicketConf → SessionEntry → Bool
starts_with_it ticket (Starts node reading records) =
    each_ticket (λ place own. is_alike ticket own) 0 node.config.tickets
starts_with_it ticket what = true

abbrev pub is_one_ticket : World → TicketConf → Bool
is_one_ticket w ticket =
    is_sound (config_of w.members ticket) && along (λ before entry. starts_with_it ticket entry.what) [] w.entries

abbrev pub is_automatic : World → TicketConf → Bool
is_automatic w ticket = is_one_ticket w ticket && not ticket.manual

-- ---- the moment

-- The entries up to a true time, and the other entries.
abbrev pub up_to : ℕ → List WorldEntry → List WorldEntry
up_to time [] = []
up_to time (entry ∷ entries) = if nat_le entry.time time then entry ∷ up_to time entries else []

abbrev pub later_than : ℕ → List WorldEntry → List WorldEntry
later_than time [] = []
later_than time (entry ∷ entries) = if nat_le entry.time time then later_than time entries else entry ∷ entries

-- ---- holders

abbrev pub lasts : Option Lease → ℕ → Bool
lasts None reading = false
lasts (Some lease) reading = nat_lt reading lease.until

-- The records that a member may have written for the ticket at this true time.
abbrev pub may_then : World → TicketConf → ℕ → ℕ → List Record
may_then w ticket m time =
    may_be_kept ticket.name (begins_with w m ticket.name) (entries_of m (up_to time w.entries))
    (entries_of m (later_than time w.entries))

abbrev pub holds_then : World → TicketConf → ℕ → ℕ → Bool
holds_then w ticket m time =
    nat_lt m (members_of w)
    && list_any (λ kept. lasts kept.lease (clock_at w m time)) (may_then w ticket m time)

-- At this true time the member holds the automatic ticket.
abbrev pub holds_at : World → TicketConf → ℕ → ℕ → Bool
holds_at w ticket m time =
    is_automatic w ticket && (nat_lt time w.span && holds_then w ticket m time)

abbrev pub two_hold_at : World → TicketConf → ℕ → ℕ → ℕ → Bool
two_hold_at w ticket m n time =
    not (m == n) && (holds_at w ticket m time && holds_then w ticket n time)
