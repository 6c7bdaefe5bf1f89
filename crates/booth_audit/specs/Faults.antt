-- The faults of journals, each defined by itself.
use Rattle.std.specs.Prelude.{◌≡◌, ◌<◌, ◌+◌, ◌-◌, ◌*◌, ◌++◌, ℕ, Bool, List, [], ◌∷◌, length, position}
use Rattle.std.specs.Prelude.{slice_get, Option, None, Some, Ok}
use Rattle.std.specs.List.{All, flat_map}
use Rattle.booth_base.specs.declared.address.Address.{Address}
use Rattle.booth_base.specs.declared.address.MemberId.{MemberId}
use Rattle.booth_conf.specs.Rules.{is_at}
use Rattle.booth_conf.specs.declared.members.Member.{Member}
use Rattle.booth_conf.specs.declared.tickets.TicketConf.{TicketConf}
use Rattle.booth_host.specs.declared.host.Arrival.TheVariants as arrivals
use Rattle.booth_host.specs.declared.entry.Entry.TheVariants as entries
use Rattle.booth_journal.specs.declared.said.Call.{Call}
use Rattle.booth_journal.specs.declared.said.Call.TheVariants as calls
use Rattle.booth_node.specs.AttributeRequests.{is_at_site}
use Rattle.booth_node.specs.Reaction.{used}
use Rattle.booth_node.specs.Records.{Has, MayRead, may_after_all, record_at}
use Rattle.booth_node.specs.Session.{Down, Hearing, Makes, SessionEntry, Stand, Starts, after_entries}
use Rattle.booth_node.specs.World.{IsSend}
use Rattle.booth_auth.specs.Verdict.{verdict}
use Rattle.booth_rec.specs.declared.record.Record.{Record}
use Rattle.booth_rec.specs.Record.{no_record}
use Rattle.booth_wire.specs.declared.command.Direction.TheVariants.{BetweenMembers}
use Rattle.booth_wire.specs.Command.{direction_of}
use Rattle.booth_wire.specs.PlainMessage.{PlainMessage}
use Rattle.booth_wire.specs.Reading.{decoded}
use Rattle.booth_audit.specs.Replay.{Event, deeds_of}
use Rattle.booth_journal.specs.Says.{Said}

-- ---- the owner of a journal

-- The address at which a start listens.
abbrev pub opened_by : Call → List (Option Address)
opened_by (calls.Open local) = local ∷ []
opened_by call = []

abbrev pub opened_in : List Said → List (Option Address)
opened_in all = flat_map (λ (said : Said). opened_by said.call) all

-- The place of the member that listens at this address. If a start listens at any address, there is no such member.
abbrev pub place_of : List Member → Option Address → Option ℕ
place_of members None = None
place_of members (Some address) = position (is_at address) members

-- The starts that listen at these addresses belong to the member with this index. Without an address they belong to no
-- one.
abbrev pub AreOf : List Member → List (Option Address) → Option ℕ → Type 0
AreOf members locals None = locals ≡ []
AreOf members locals (Some place) =
    (locals ≡ [] → ⊥) × All (λ (local : Option Address). place_of members local ≡ Some place) locals

-- All starts of a journal belong to this owner. A journal in which no start listened belongs to no one.
abbrev pub IsOf : List Member → List Said → Option ℕ → Type 0
IsOf members all owner = AreOf members (opened_in all) owner

-- ---- records

-- For each ticket, a start reads a record that its member may have written, or a silent record.
abbrev pub ReadsKept : List SessionEntry → SessionEntry → Type 0
ReadsKept before (Starts node reading records) =
    (place : ℕ) (conf : TicketConf) → slice_get node.config.tickets place ≡ Some conf
    → MayRead (is_at_site node) (may_after_all conf.name (no_record ∷ []) before) (record_at records place)
ReadsKept before what = Unit {0}

-- Each start after these entries reads only records that it may read.
abbrev pub AllReadKept : List SessionEntry → List SessionEntry → Type 0
AllReadKept before [] = Unit {0}
AllReadKept before (what ∷ more) = ReadsKept before what × AllReadKept (before ++ what ∷ []) more

-- A start of a site or of an arbitrator may not read the record of the ticket at this place, but may read the records
-- of the tickets before it.
pub record MayNotRead (site : Bool) (before : List SessionEntry) (tickets : List TicketConf)
    (records : List (Option Record)) (place : ℕ) : Type 0 where
  pub conf : TicketConf
  pub is : slice_get tickets place ≡ Some conf
  pub wrong : MayRead site (may_after_all conf.name (no_record ∷ []) before) (record_at records place) → ⊥
  pub others : (earlier : ℕ) (other : TicketConf) → earlier < place → slice_get tickets earlier ≡ Some other
      → MayRead site (may_after_all other.name (no_record ∷ []) before) (record_at records earlier)

-- The line of the answer to the read at a place. Each read of a start has two lines, and the last read begins at the
-- line of the start.
abbrev pub answer_line : ℕ → ℕ → ℕ → ℕ
answer_line count place last = last + 1 - 2 * (count - 1 - place)

abbrev pub ReadsWrong : List SessionEntry → SessionEntry → ℕ → ℕ → Type 0
ReadsWrong before (Starts node reading records) last line =
    (place : ℕ) × MayNotRead (is_at_site node) before node.config.tickets records place
    × (line ≡ answer_line (length node.config.tickets) place last)
ReadsWrong before what last line = ⊥

-- The line of the first record that a start may not read.
pub record FirstNotKept (events : List Event) (line : ℕ) : Type 0 where
  pub before : List Event
  pub event : Event
  pub after : List Event
  pub whole : events ≡ before ++ event ∷ after
  pub earlier : AllReadKept [] (deeds_of before)
  pub wrong : ReadsWrong (deeds_of before) event.what event.line line

-- ---- messages

-- The owner of a journal, the owner's id, and its events.
pub record Heard : Type 0 where
  pub member : Option ℕ
  pub id : MemberId
  pub events : List Event

-- According to its journal, the member whose id a message carries sent the same message. A send that failed or was
-- interrupted counts.
pub record WasSent (all : List Heard) (message : PlainMessage) : Type 0 where
  pub sender : Heard
  pub known : Has all sender
  pub same_id : sender.id ≡ message.head.from
  pub event : Event
  pub told : Has sender.events event
  pub bytes : List ℕ
  pub sent : IsSend event.what bytes
  pub same : decoded bytes ≡ Ok message

-- If the turn accepts a member's message at this reading, that message was sent.
abbrev pub HearsSent : List Heard → Stand → SessionEntry → Type 0
HearsSent all (Hearing node old (Ok (arrivals.Datagram from)) bytes) (Makes (entries.Now reading)) =
    (message : PlainMessage)
    → verdict node.config node.ring node.me (used old.last_reading reading) bytes ≡ Ok message
    → direction_of message.head.cmd ≡ BetweenMembers → WasSent all message
HearsSent all stand what = Unit {0}

-- Each reading of a turn after these entries accepts only sent messages.
abbrev pub AllHearSent : List Heard → List SessionEntry → List SessionEntry → Type 0
AllHearSent all before [] = Unit {0}
AllHearSent all before (what ∷ more) =
    HearsSent all (after_entries Down before) what × AllHearSent all (before ++ what ∷ []) more

-- The line of the first datagram whose message no journal has as a send of the member that it names. The line is the
-- answer of the wait before the reading at which the message is accepted.
pub record FirstUnsent (all : List Heard) (events : List Event) (line : ℕ) : Type 0 where
  pub before : List Event
  pub event : Event
  pub after : List Event
  pub whole : events ≡ before ++ event ∷ after
  pub earlier : AllHearSent all [] (deeds_of before)
  pub wrong : HearsSent all (after_entries Down (deeds_of before)) event.what → ⊥
  pub place : line + 1 ≡ event.line
