-- The records that the starts of a member may read, and the line of the first record that a start may not read.
use Rattle.std.specs.Prelude.{◌≡◌, ◌↔◌, ◌&&◌, ◌||◌, ◌++◌, ℕ, Bool, nat_le, not, List, [], ◌∷◌}
use Rattle.std.specs.Prelude.{length, position, slice_get}
use Rattle.std.specs.Prelude.{Option, None, Some, option_map}
use Rattle.std.specs.List.{list_any, zip}
use Rattle.std.specs.Option.{option_or}
use Rattle.booth_conf.specs.Config.{ConfigSays}
use Rattle.booth_conf.specs.Lookups.{is_called}
use Rattle.booth_conf.specs.Sound.{IsSound}
use Rattle.booth_conf.specs.declared.tickets.TicketConf.{TicketConf}
use Rattle.booth_node.specs.AttributeRequests.{is_at_site}
use Rattle.booth_node.specs.Session.{AreSessions, Down, SessionEntry, Starts}
use Rattle.booth_rec.specs.contracts.record.RecordPartialEq.TheImpl as equality
use Rattle.booth_rec.specs.declared.record.Record.{Record}
use Rattle.booth_rec.specs.Record.{first_plain, record_or_none}
use Rattle.booth_audit.specs.Faults.{AllReadKept, FirstNotKept, answer_line}
use Rattle.booth_audit.specs.Kept.{first_may, may_noted}
use Rattle.booth_audit.specs.Noted.{MemberSays}
use Rattle.booth_audit.specs.Own.{AllOwn}
use Rattle.booth_audit.specs.Replay.{Event, deeds_of}
use Rattle.booth_audit.specs.Silent.{is_among, unwritten_from, unwritten_in}
use Rattle.booth_audit.specs.declared.silent.Unwritten.{Unwritten}

-- The records that the member may have written for each ticket, in file order, the first wrong line, and the reads of
-- records that the member may not have written.
pub record Watched : Type 0 where
  pub may : List (List Record)
  pub wrong : Option ℕ
  pub unwritten : List Unwritten

abbrev pub first_watched : List TicketConf → Watched
first_watched tickets = record { may = first_may tickets; wrong = None; unwritten = [] }

-- ---- a start

-- A record has this term or an earlier one.
abbrev pub is_up_to : ℕ → Record → Bool
is_up_to term kept = nat_le kept.term term

-- A record is of version 1 and has no lease, by `==` of the type. At a site one of these has no later term.
abbrev pub is_silent : Bool → List Record → Record → Bool
is_silent site may kept =
    equality.eq-value.it kept (first_plain kept.term None) && (not site || list_any (is_up_to kept.term) may)

-- A start of a site or of an arbitrator may read this record.
abbrev pub may_read : Bool → List Record → Record → Bool
may_read site may kept = is_among may kept || is_silent site may kept

-- A start may not read the record that it read for a ticket.
abbrev pub is_wrong : Bool → List Record × Option Record → Bool
is_wrong site read = not (may_read site read.0 (record_or_none read.1))

-- The place of the first ticket with a wrong record.
abbrev pub first_wrong : Bool → List (List Record) → List (Option Record) → Option ℕ
first_wrong site all records = position (is_wrong site) (zip all records)

-- The line of that record, in a start with this line.
abbrev pub wrong_line : Bool → List (List Record) → List (Option Record) → ℕ → Option ℕ
wrong_line site all records last =
    option_map (λ place. answer_line (length records) place last) (first_wrong site all records)

-- ---- all events

-- The first wrong line after an event. A wrong line that was found stays.
abbrev pub wrong_after : Watched → SessionEntry → ℕ → Option ℕ
wrong_after old (Starts node reading records) last =
    option_or old.wrong (wrong_line (is_at_site node) old.may records last)
wrong_after old what last = old.wrong

-- The reads after an entry of records that the member may not have written.
abbrev pub unwritten_after : Watched → SessionEntry → ℕ → List Unwritten
unwritten_after old (Starts node reading records) last =
    old.unwritten ++ unwritten_from old.may (length records) last 0 records
unwritten_after old what last = old.unwritten

abbrev pub watched : MemberSays → Watched → Event → Watched
watched member old event = record {
  may = may_noted member.node.config.tickets old.may event.what;
  wrong = wrong_after old event.what event.line;
  unwritten = unwritten_after old event.what event.line;
}

abbrev pub watched_all : MemberSays → Watched → List Event → Watched
watched_all member old [] = old
watched_all member old (event ∷ events) = watched_all member (watched member old event) events

-- ---- the report of the watch

-- Each ticket is found by its name at its own place.
abbrev pub AreFound : List TicketConf → Type 0
AreFound tickets =
    (place : ℕ) (conf : TicketConf) → slice_get tickets place ≡ Some conf
    → position (is_called conf.name) tickets ≡ Some place

-- In each configuration that a text spells, each ticket is found by its name at its own place.
abbrev pub TicketsAreFound : Type 0
TicketsAreFound = (config : ConfigSays) → IsSound config → AreFound config.tickets

-- There is no wrong line exactly if each start read records that it may read. A wrong line is the line of the first
-- other record.
pub record TellsFirst (events : List Event) (wrong : Option ℕ) : Type 0 where
  pub none : (wrong ≡ None) ↔ AllReadKept [] (deeds_of events)
  pub first : (line : ℕ) → wrong ≡ Some line → FirstNotKept events line

-- If all starts are this member's, the watch over its events reports the line of the first record that a start may not
-- read.
abbrev pub WatchTellsFirst : Type 0
WatchTellsFirst =
    (member : MemberSays) → AreFound member.node.config.tickets → (events : List Event)
    → AreSessions Down (deeds_of events) → AllOwn member.node (deeds_of events)
    → TellsFirst events (watched_all member (first_watched member.node.config.tickets) events).wrong

-- If all starts are this member's, the watch over its events reports the reads of records that the member may not have
-- written.
abbrev pub WatchTellsUnwritten : Type 0
WatchTellsUnwritten =
    (member : MemberSays) → AreFound member.node.config.tickets → (events : List Event)
    → AreSessions Down (deeds_of events) → AllOwn member.node (deeds_of events)
    → (watched_all member (first_watched member.node.config.tickets) events).unwritten ≡ unwritten_in [] events
