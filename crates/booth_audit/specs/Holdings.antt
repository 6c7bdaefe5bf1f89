-- The times during which each member held each ticket, from what the members did.
use Rattle.std.specs.Prelude.{◌≡◌, ◌≤◌, ◌+◌, ◌++◌, ℕ, List, [], ◌∷◌, bytes_eq, position, slice_get}
use Rattle.std.specs.Prelude.{Option, None, Some, if◌then◌else◌}
use Rattle.std.specs.List.{flat_map}
use Rattle.std.specs.Option.{option_map_or}
use Rattle.booth_conf.specs.Lookups.{is_called}
use Rattle.booth_conf.specs.declared.tickets.TicketConf.{TicketConf}
use Rattle.booth_host.specs.declared.entry.Entry.TheVariants as entries
use Rattle.booth_node.specs.Opening.{start_reading}
use Rattle.booth_node.specs.Reaction.{used}
use Rattle.booth_node.specs.Records.{Has, may_after_all, record_at}
use Rattle.booth_node.specs.Session.{CutKeep, IsCut, Makes, SessionEntry, Starts}
use Rattle.booth_rec.specs.declared.record.Lease.{Lease}
use Rattle.booth_rec.specs.declared.record.Record.{Record}
use Rattle.booth_rec.specs.Record.{IsInForce, lease_end, no_record}
use Rattle.booth_audit.specs.declared.holding.Holding.{Holding}

-- The reading in use after an entry. A start uses its first clock reading, and a turn uses its reading.
abbrev pub used_after : ℕ → SessionEntry → ℕ
used_after last (Starts node reading records) = start_reading reading
used_after last (Makes (entries.Now reading)) = used last reading
used_after last what = last

abbrev pub used_after_all : ℕ → List SessionEntry → ℕ
used_after_all last [] = last
used_after_all last (what ∷ more) = used_after_all (used_after last what) more

-- The holding for a lease of a member's ticket, from the reading in use.
abbrev pub holding_by : ℕ → ℕ → ℕ → Option Lease → List Holding
holding_by ticket member from None = []
holding_by ticket member from (Some lease) =
    record { ticket = ticket; member = member; from = from; until = lease.until } ∷ []

abbrev pub if_called : List ℕ → List ℕ → List Holding → List Holding
if_called name ticket holdings = if bytes_eq ticket name then holdings else []

-- The holdings of an entry. A start that read a lease gives one. So does each write of a lease, whether it was done,
-- failed or was interrupted.
abbrev pub holding_in : List ℕ → ℕ → ℕ → ℕ → SessionEntry → List Holding
holding_in name ticket member from (Starts node reading records) =
    holding_by ticket member from (record_at records ticket).lease
holding_in name ticket member from (Makes (entries.Keep kept_of rec answer)) =
    if_called name kept_of (holding_by ticket member from rec.lease)
holding_in name ticket member from (IsCut (CutKeep kept_of rec)) =
    if_called name kept_of (holding_by ticket member from rec.lease)
holding_in name ticket member from what = []

-- The holdings of one ticket of one member, in the order of its journal.
abbrev pub holdings_in : List ℕ → ℕ → ℕ → ℕ → List SessionEntry → List Holding
holdings_in name ticket member last [] = []
holdings_in name ticket member last (what ∷ more) =
    let from : ℕ = used_after last what in
    holding_in name ticket member from what ++ holdings_in name ticket member from more

-- The entries of one member, or of no one.
pub record Deeds : Type 0 where
  pub member : Option ℕ
  pub entries : List SessionEntry

abbrev pub holdings_by : ℕ → TicketConf → Deeds → List Holding
holdings_by ticket conf one =
    option_map_or (λ member. holdings_in conf.name ticket member 0 one.entries) one.member []

abbrev pub holdings_of : List Deeds → ℕ → TicketConf → List Holding
holdings_of all ticket conf = flat_map (holdings_by ticket conf) all

-- The holdings, ordered by ticket, then journal, then line. The first ticket has this number.
abbrev pub holdings_from : List Deeds → ℕ → List TicketConf → List Holding
holdings_from all ticket [] = []
holdings_from all ticket (conf ∷ more) = holdings_of all ticket conf ++ holdings_from all (ticket + 1) more

-- ---- what the holdings guarantee

-- The holdings cover each record of a ticket that a member may have written after each of its entries. If the record is
-- in force at the reading in use, there is a holding with the same end that began at this reading or earlier.
abbrev pub Covers : List TicketConf → List Deeds → List Holding → Type 0
Covers tickets all holdings =
    (one : Deeds) → Has all one → (before after : List SessionEntry) → one.entries ≡ before ++ after
    → (place : ℕ) (conf : TicketConf) → slice_get tickets place ≡ Some conf → (kept : Record)
    → Has (may_after_all conf.name (no_record ∷ []) before) kept → IsInForce kept (used_after_all 0 before)
    → (holding : Holding) × Has holdings holding × (holding.ticket ≡ place)
    × (Some holding.member ≡ one.member) × (holding.until ≡ lease_end kept.lease)
    × (holding.from ≤ used_after_all 0 before)

-- A start finds the ticket with this name at this place.
abbrev pub FindsAt : List ℕ → ℕ → SessionEntry → Type 0
FindsAt name ticket (Starts node reading records) = position (is_called name) node.config.tickets ≡ Some ticket
FindsAt name ticket what = Unit {0}

-- Each start finds the ticket with this name at this place.
abbrev pub AllFindAt : List ℕ → ℕ → List SessionEntry → Type 0
AllFindAt name ticket [] = Unit {0}
AllFindAt name ticket (what ∷ more) = FindsAt name ticket what × AllFindAt name ticket more

-- There is a holding of this ticket by a member with the end of a lease. It began no later than this reading.
abbrev pub IsHeld : ℕ → ℕ → List Holding → ℕ → Option Lease → Type 0
IsHeld ticket member holdings last None = Unit {0}
IsHeld ticket member holdings last (Some lease) =
    (holding : Holding) × Has holdings holding × (holding.ticket ≡ ticket) × (holding.member ≡ member)
    × (holding.until ≡ lease.until) × (holding.from ≤ last)

-- Each record of a ticket that a member may have written in its first entries has a holding.
abbrev pub MembersAreCovered : Type 0
MembersAreCovered =
    (name : List ℕ) (ticket member : ℕ) (before after : List SessionEntry) → AllFindAt name ticket before
    → (kept : Record) → Has (may_after_all name (no_record ∷ []) before) kept
    → IsHeld ticket member (holdings_in name ticket member 0 (before ++ after)) (used_after_all 0 before) kept.lease

-- The starts of a member have these tickets, each with a name of its own. The entries of no one are empty.
abbrev pub IsOfTickets : List TicketConf → Deeds → Type 0
IsOfTickets tickets one =
    (one.member ≡ None → one.entries ≡ [])
    × ((place : ℕ) (conf : TicketConf) → slice_get tickets place ≡ Some conf
    → AllFindAt conf.name place one.entries)

-- The holdings of members whose starts have these tickets cover each lease that may have been written.
abbrev pub HoldingsCover : Type 0
HoldingsCover =
    (tickets : List TicketConf) (all : List Deeds) → ((one : Deeds) → Has all one → IsOfTickets tickets one)
    → Covers tickets all (holdings_from all 0 tickets)
