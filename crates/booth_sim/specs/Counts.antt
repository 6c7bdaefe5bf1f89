-- The eight numbers of a simulation, counted over its entries.
use Rattle.std.specs.Prelude.{ℕ, ◌+◌, ◌++◌, ◌&&◌, max, nat_lt, Bool, true, false, List, [], ◌∷◌, length, count_by, position, Option, Some, None, is_some, Ok, if◌then◌else◌}
use Rattle.std.specs.List.{range_with_len}
use Rattle.booth_conf.specs.Config.{ConfigSays}
use Rattle.booth_conf.specs.Lookups.{is_called}
use Rattle.booth_conf.specs.declared.tickets.TicketConf.{TicketConf}
use Rattle.booth_rec.specs.declared.record.Lease.{Lease}
use Rattle.booth_rec.specs.Record.{record_or_none}
use Rattle.booth_host.specs.declared.host.Arrival.TheVariants as arrivals
use Rattle.booth_host.specs.declared.entry.Entry.TheVariants as calls
use Rattle.booth_node.specs.Opening.{is_site_at}
use Rattle.booth_node.specs.Session.{SessionEntry, Starts, Makes}
use Rattle.booth_node.specs.World.{WorldEntry, entries_of, last_time}
use Rattle.booth_sim.specs.declared.summary.Summary.{Summary}
use Rattle.booth_sim.specs.Frames.{place_of}
use Rattle.booth_sim.specs.Happenings.{reading_at}
use Rattle.booth_sim.specs.Kept.{kept_by}

-- ---- the entries to count

abbrev pub one_if : Bool → ℕ
one_if counts = if counts then 1 else 0

-- The number of these entries that meet a condition, each together with the entries before it.
abbrev pub count_after : (List WorldEntry → WorldEntry → Bool) → List WorldEntry → List WorldEntry → ℕ
count_after is before [] = 0
count_after is before (entry ∷ entries) =
    one_if (is before entry) + count_after is (before ++ entry ∷ []) entries

-- A frame of a member arrives.
abbrev pub is_delivery : ConfigSays → SessionEntry → Bool
is_delivery config (Makes (calls.Next wait (Ok (arrivals.Datagram from)) bytes)) = is_some (place_of config from)
is_delivery config what = false

-- A member starts that was up before.
abbrev pub is_some_entry : List SessionEntry → Bool
is_some_entry [] = false
is_some_entry (entry ∷ entries) = true

abbrev pub is_restart : List WorldEntry → ℕ → SessionEntry → Bool
is_restart before place (Starts node reading records) = is_some_entry (entries_of place before)
is_restart before place what = false

-- A record gives a lease, and the record before it had no lease, or a lease that ends earlier.
abbrev pub gains : Option Lease → Option Lease → Bool
gains old None = false
gains None (Some new) = true
gains (Some old) (Some new) = nat_lt old.until new.until

-- A record has no lease, and the record before had one.
abbrev pub releases : Option Lease → Option Lease → Bool
releases old (Some new) = false
releases old None = is_some old

-- A write that succeeded changed the lease of its ticket in this way. The ticket is one of the configuration.
abbrev pub is_change : (Option Lease → Option Lease → Bool) → ConfigSays → List WorldEntry → ℕ → SessionEntry → Bool
is_change changes config before place (Makes (calls.Keep name rec (Ok done))) =
    is_some (position (is_called name) config.tickets)
    && changes (record_or_none (kept_by place name before)).lease rec.lease
is_change changes config before place what = false

-- The term that a write wrote.
abbrev pub term_in : SessionEntry → ℕ
term_in (Makes (calls.Keep name rec (Ok done))) = rec.term
term_in what = 0

abbrev pub greatest_term : List WorldEntry → ℕ
greatest_term [] = 0
greatest_term (entry ∷ entries) = max (term_in entry.what) (greatest_term entries)

-- ---- holders

abbrev pub is_in_force : Option Lease → ℕ → Bool
is_in_force None reading = false
is_in_force (Some lease) reading = nat_lt reading lease.until

-- The member is a site whose written record of the ticket is in force at the time that its clock reads at the last
-- entry.
abbrev pub is_holder : ConfigSays → List WorldEntry → TicketConf → ℕ → Bool
is_holder config before ticket place =
    is_site_at config.members place
    && is_in_force (record_or_none (kept_by place ticket.name before)).lease (reading_at place (last_time 0 before))

-- The number of sites that hold an automatic ticket.
abbrev pub holders : ConfigSays → List WorldEntry → TicketConf → ℕ
holders config before ticket =
    if ticket.manual then 0
    else count_by (is_holder config before ticket) (range_with_len 0 (length config.members))

-- The greatest number of holders of a ticket.
abbrev pub most_of : ConfigSays → List WorldEntry → List TicketConf → ℕ
most_of config before [] = 0
most_of config before (ticket ∷ tickets) =
    max (holders config before ticket) (most_of config before tickets)

-- The entry begins an event: it is a start, or the arrival in a turn.
abbrev pub begins : SessionEntry → Bool
begins (Starts node reading records) = true
begins (Makes (calls.Next wait answer bytes)) = true
begins what = false

-- The greatest number of holders between two events, and after the last one.
abbrev pub most_between : ConfigSays → List WorldEntry → List WorldEntry → ℕ
most_between config before [] = most_of config before config.tickets
most_between config before (entry ∷ entries) =
    max (if begins entry.what then most_of config before config.tickets else 0)
    (most_between config (before ++ entry ∷ []) entries)

-- ---- the eight numbers

abbrev pub delivered_in : ConfigSays → List WorldEntry → ℕ
delivered_in config entries = count_after (λ before entry. is_delivery config entry.what) [] entries

abbrev pub restarts_in : List WorldEntry → ℕ
restarts_in entries = count_after (λ before entry. is_restart before entry.member entry.what) [] entries

abbrev pub changes_in : (Option Lease → Option Lease → Bool) → ConfigSays → List WorldEntry → ℕ
changes_in changes config entries =
    count_after (λ before entry. is_change changes config before entry.member entry.what) [] entries

abbrev pub summary_of : ConfigSays → ℕ → ℕ → List WorldEntry → Summary
summary_of config events number entries = record {
  events = events;
  number = number;
  delivered = delivered_in config entries;
  restarts = restarts_in entries;
  gains = changes_in gains config entries;
  releases = changes_in releases config entries;
  greatest_term = greatest_term entries;
  most_holders = most_between config [] entries;
}
