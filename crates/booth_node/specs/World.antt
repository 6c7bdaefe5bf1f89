-- Worlds: the sessions of all members of a cluster, in the order of true time.
use Rattle.std.specs.Prelude.{◌≡◌, ◌⊎◌, ℕ, ◌<◌, ◌≤◌, ◌==◌, ◌++◌, Bool, true, false, if◌then◌else◌, List, [], ◌∷◌, length, slice_get, slice_index, Some, Ok}
use Rattle.std.specs.Option.{ForSome, option_map_or}
use Rattle.booth_base.specs.declared.address.MemberId.{MemberId}
use Rattle.booth_base.specs.declared.address.TheConstants.{NO_ONE}
use Rattle.booth_conf.specs.Config.{ConfigSays}
use Rattle.booth_conf.specs.declared.members.Member.{Member}
use Rattle.booth_conf.specs.declared.tickets.TicketConf.{TicketConf}
use Rattle.booth_conf.specs.Sound.{IsSound}
use Rattle.booth_rec.specs.declared.record.Record.{Record}
use Rattle.booth_rec.specs.Record.{first_plain, is_second, no_record}
use Rattle.booth_wire.specs.declared.command.Direction.TheVariants.{BetweenMembers}
use Rattle.booth_wire.specs.Command.{direction_of}
use Rattle.booth_wire.specs.PlainMessage.{PlainMessage}
use Rattle.booth_wire.specs.Reading.{decoded}
use Rattle.booth_auth.specs.Verdict.{verdict}
use Rattle.booth_host.specs.declared.host.Arrival.TheVariants as arrivals
use Rattle.booth_host.specs.declared.entry.Entry.TheVariants as calls
use Rattle.booth_node.specs.declared.node_config.NodeConfig.{NodeConfig}
use Rattle.booth_node.specs.Clock.{IsRising, IsClock}
use Rattle.booth_node.specs.Opening.{is_site_at}
use Rattle.booth_node.specs.Reaction.{used}
use Rattle.booth_node.specs.Session.{SessionEntry, Starts, Makes, IsCut, CutSend, Stand, Down, Hearing, AreSessions, after_entries}
use Rattle.booth_node.specs.Records.{Has, record_at, may_be_kept, MayRead, GoesOn}

-- ---- a world

-- An entry of a world: an action of a member at a true time, counted in ticks.
pub record WorldEntry : Type 0 where
  pub member : ℕ
  pub time : ℕ
  pub what : SessionEntry

-- The beginning of a member: whether it was of version 2 before, and the record of each ticket, by the ticket's name.
pub record Beginning : Type 0 where
  pub second : Bool
  pub records : List ℕ → Record

-- The beginning of a member that wrote nothing before. This counts as a record of version 1.
abbrev pub from_nothing : Beginning
from_nothing = record { second = false; records = λ name. no_record }

-- A world: the members, the number of ticks of true time in a millisecond, one clock for each member (all of the same
-- length), the beginning of each member, and the entries. Members are named by their places.
pub record World : Type 0 where
  pub members : List Member
  pub ticks : ℕ
  pub span : ℕ
  pub clock : ℕ → List ℕ
  pub begins : ℕ → Beginning
  pub entries : List WorldEntry

abbrev pub members_of : World → ℕ
members_of w = length w.members

abbrev pub id_at : World → ℕ → MemberId
id_at w m = option_map_or (λ member. member.id) (slice_get w.members m) NO_ONE

-- The entries of one member.
abbrev pub entries_of : ℕ → List WorldEntry → List SessionEntry
entries_of m [] = []
entries_of m (entry ∷ entries) =
    if entry.member == m then entry.what ∷ entries_of m entries else entries_of m entries

-- The record of the ticket with this name at the beginning of this member.
abbrev pub begins_with : World → ℕ → List ℕ → Record
begins_with w m name = (w.begins m).records name

-- The statement holds for each entry, together with the entries before it.
abbrev pub AtEach : World → (List WorldEntry → WorldEntry → Type 0) → Type 0
AtEach w P =
    (before after : List WorldEntry) (entry : WorldEntry) → w.entries ≡ before ++ entry ∷ after → P before entry

-- ---- the form of a world

abbrev pub last_time : ℕ → List WorldEntry → ℕ
last_time time [] = time
last_time time (entry ∷ entries) = last_time entry.time entries

-- A text spells these members. Each entry belongs to a member. True times never fall along the list, and lie within
-- the clocks.
pub record HasForm (w : World) : Type 0 where
  pub said : (config : ConfigSays) × IsSound config × (config.members ≡ w.members)
  pub members : AtEach w (λ before entry. entry.member < members_of w)
  pub in_order : AtEach w (λ before entry. last_time 0 before ≤ entry.time)
  pub within : AtEach w (λ before entry. entry.time < w.span)

-- ---- its premises

-- The node of a start of this member. A text spells its configuration, which has all members of the world, and the
-- node is of either version. Everything else in its configuration is its own, including its tickets, and so is its
-- ring of keys.
pub record IsNodeOf (w : World) (m : ℕ) (node : NodeConfig) : Type 0 where
  pub sound : IsSound node.config
  pub members : node.config.members ≡ w.members
  pub me : node.me ≡ id_at w m

abbrev pub HasConfiguration : World → WorldEntry → SessionEntry → Type 0
HasConfiguration w entry (Starts node reading records) = IsNodeOf w entry.member node
HasConfiguration w entry what = Unit {0}

-- The reading of the member's clock at a true time.
abbrev pub clock_at : World → ℕ → ℕ → ℕ
clock_at w m time = slice_index (w.clock m) time

-- Each reading, including the reading of a start, is the reading of the member's clock at this true time.
abbrev pub ReadsClock : World → WorldEntry → SessionEntry → Type 0
ReadsClock w entry (Starts node reading records) = reading ≡ clock_at w entry.member entry.time
ReadsClock w entry (Makes (calls.Now reading)) = reading ≡ clock_at w entry.member entry.time
ReadsClock w entry what = Unit {0}

-- Each member has one clock through all its starts, which never falls, and it reads no other clock.
pub record HasRisingClocks (w : World) : Type 0 where
  pub some : 0 < w.span
  pub long : (m : ℕ) → m < members_of w → length (w.clock m) ≡ w.span
  pub rising : (m : ℕ) → m < members_of w → IsRising (w.clock m)
  pub read : AtEach w (λ before entry. ReadsClock w entry entry.what)

-- Each member has one clock through all its starts, which drifts within the bounds, and it reads no other clock.
pub record HasTrueClocks (w : World) : Type 0 where
  pub ticking : 0 < w.ticks
  pub some : 0 < w.span
  pub long : (m : ℕ) → m < members_of w → length (w.clock m) ≡ w.span
  pub clocks : (m : ℕ) → m < members_of w → IsClock w.ticks (w.clock m)
  pub read : AtEach w (λ before entry. ReadsClock w entry entry.what)

-- The id belongs to a member.
abbrev pub IsMemberId : World → MemberId → Type 0
IsMemberId w id = (m : ℕ) × (m < members_of w) × (id_at w m ≡ id)

-- A record holds nothing if its member's clock first reads this. Its lease, if it has one, has ended. Either it is of
-- version 1, and has nothing but its term and its lease; or it is of version 2, and its member was of version 2. Its
-- vote and its promise are for members. A promise, live or over, has a term no later than the record's term, and was
-- made after the abstention.
pub record HoldsNothing (w : World) (m reading : ℕ) (kept : Record) : Type 0 where
  pub over : ForSome kept.lease (λ lease. lease.until ≤ reading)
  pub version : (kept ≡ first_plain kept.term kept.lease) ⊎ ((is_second kept ≡ true) × ((w.begins m).second ≡ true))
  pub bound : ForSome kept.bound (λ id. IsMemberId w id)
  pub promise : ForSome kept.promise
      (λ promise. IsMemberId w promise.to × (promise.term ≤ kept.term) × (kept.abstain ≤ reading))

-- The configuration of a start has no manual ticket with this name.
abbrev pub HasNoManual : List ℕ → SessionEntry → Type 0
HasNoManual name (Starts node reading records) =
    (place : ℕ) (ticket : TicketConf) → slice_get node.config.tickets place ≡ Some ticket → ticket.name ≡ name
    → ticket.manual ≡ false
HasNoManual name what = Unit {0}

-- No ticket is held when the world begins, except tickets that some start has as manual. For a ticket that some start
-- has as manual, a member begins with any record.
abbrev pub BeginsFree : World → Type 0
BeginsFree w =
    (m : ℕ) (name : List ℕ) → AtEach w (λ before entry. HasNoManual name entry.what)
    → HoldsNothing w m (clock_at w m 0) (begins_with w m name)

-- The records that a member may have written for a ticket before this entry of it.
abbrev pub kept_before : World → List ℕ → List WorldEntry → WorldEntry → SessionEntry → List Record
kept_before w name before entry what =
    may_be_kept name (begins_with w entry.member name) (entries_of entry.member before) (what ∷ [])

-- For each of its tickets, a start reads a record that its member, site or arbitrator, may have written. So a member
-- that never started in this world before reads the record with which it begins. Or the start reads a silent record:
-- the member's records are lost, or somebody wrote a silent record for it.
abbrev pub ReadsKept : World → List WorldEntry → WorldEntry → SessionEntry → Type 0
ReadsKept w before entry (Starts node reading records) =
    (place : ℕ) (ticket : TicketConf) → slice_get node.config.tickets place ≡ Some ticket
    → MayRead (is_site_at w.members entry.member)
    (kept_before w ticket.name before entry (Starts node reading records))
    (record_at records place)
ReadsKept w before entry what = Unit {0}

-- A start goes on from a record that its member may have written, or in a later term than the term of such a record.
abbrev pub StartsOn : World → List WorldEntry → WorldEntry → SessionEntry → Type 0
StartsOn w before entry (Starts node reading records) =
    (place : ℕ) (ticket : TicketConf) → slice_get node.config.tickets place ≡ Some ticket
    → GoesOn (kept_before w ticket.name before entry (Starts node reading records)) (record_at records place)
StartsOn w before entry what = Unit {0}

-- One of these entries of a member is a start of version 2.
abbrev pub WasSecond : List SessionEntry → Type 0
WasSecond [] = ⊥
WasSecond (Starts node reading records ∷ entries) = (node.second ≡ true) ⊎ WasSecond entries
WasSecond (entry ∷ entries) = WasSecond entries

-- A member that was of version 2 before, or started in version 2, starts in version 2 again.
abbrev pub StaysSecond : World → List WorldEntry → WorldEntry → SessionEntry → Type 0
StaysSecond w before entry (Starts node reading records) =
    ((w.begins entry.member).second ≡ true) ⊎ WasSecond (entries_of entry.member before) → node.second ≡ true
StaysSecond w before entry what = Unit {0}

-- A send has these bytes. A send that failed or was interrupted counts.
abbrev pub IsSend : SessionEntry → List ℕ → Type 0
IsSend (Makes (calls.Send to bytes answer)) sent = bytes ≡ sent
IsSend (IsCut (CutSend to bytes)) sent = bytes ≡ sent
IsSend what sent = ⊥

-- In one of these entries, the member with the message's id sent the same message.
pub record WasSent (w : World) (before : List WorldEntry) (message : PlainMessage) : Type 0 where
  pub entry : WorldEntry
  pub earlier : Has before entry
  pub sender : id_at w entry.member ≡ message.head.from
  pub bytes : List ℕ
  pub sent : IsSend entry.what bytes
  pub same : decoded bytes ≡ Ok message

-- If the turn accepts a member's message at this reading, that message was sent.
abbrev pub HearsSent : World → List WorldEntry → Stand → SessionEntry → Type 0
HearsSent w before (Hearing node old (Ok (arrivals.Datagram from)) bytes) (Makes (calls.Now reading)) =
    (message : PlainMessage) → verdict node.config node.ring node.me (used old.last_reading reading) bytes ≡ Ok message
    → direction_of message.head.cmd ≡ BetweenMembers → WasSent w before message
HearsSent w before stand what = Unit {0}

-- The state of a member after these entries of the world.
abbrev pub stand_after : ℕ → List WorldEntry → Stand
stand_after m before = after_entries Down (entries_of m before)

-- A world has seven premises. Members begin with records that hold no automatic ticket. All starts have the same
-- members. Clocks are true. Records return as the member may have written them. A member's sessions of version 1 come
-- before its sessions of version 2. An accepted message of a member was sent by that member, earlier, and may reach
-- any member, any number of times or never. One daemon of each member runs at a time. Everything else is arbitrary:
-- what clients request, what fails, what is interrupted, and when.
pub record IsWorld (w : World) : Type 0 where
  pub form : HasForm w
  pub nothing_held : BeginsFree w
  pub same_members : AtEach w (λ before entry. HasConfiguration w entry entry.what)
  pub true_clocks : HasTrueClocks w
  pub records_return : AtEach w (λ before entry. ReadsKept w before entry entry.what)
  pub versions_rise : AtEach w (λ before entry. StaysSecond w before entry entry.what)
  pub members_speak : AtEach w (λ before entry. HearsSent w before (stand_after entry.member before) entry.what)
  pub one_daemon : (m : ℕ) → m < members_of w → AreSessions Down (entries_of m w.entries)

-- An untimed world has all these premises, except that its clocks need not be true: they rise, at any pace. Each
-- world is untimed too.
pub record IsUntimedWorld (w : World) : Type 0 where
  pub form : HasForm w
  pub nothing_held : BeginsFree w
  pub same_members : AtEach w (λ before entry. HasConfiguration w entry entry.what)
  pub rising_clocks : HasRisingClocks w
  pub records_return : AtEach w (λ before entry. ReadsKept w before entry entry.what)
  pub versions_rise : AtEach w (λ before entry. StaysSecond w before entry entry.what)
  pub members_speak : AtEach w (λ before entry. HearsSent w before (stand_after entry.member before) entry.what)
  pub one_daemon : (m : ℕ) → m < members_of w → AreSessions Down (entries_of m w.entries)

-- ---- a world of version 2

-- If the entry is a start, it is a start of version 2.
abbrev pub IsSecondStart : SessionEntry → Type 0
IsSecondStart (Starts node reading records) = node.second ≡ true
IsSecondStart what = Unit {0}

-- All sessions of the world are of version 2.
abbrev pub IsSecondWorld : World → Type 0
IsSecondWorld w = AtEach w (λ before entry. IsSecondStart entry.what)

-- Each start of the world goes on.
abbrev pub RecordsGoOn : World → Type 0
RecordsGoOn w = AtEach w (λ before entry. StartsOn w before entry entry.what)

-- ---- one ticket of a world

-- If a start's configuration has the ticket, the ticket has this kind and these times there.
abbrev pub StartsWithIt : TicketConf → SessionEntry → Type 0
StartsWithIt ticket (Starts node reading records) =
    (place : ℕ) (own : TicketConf) → slice_get node.config.tickets place ≡ Some own → own.name ≡ ticket.name
    → (own.manual ≡ ticket.manual) × (own.times ≡ ticket.times)
StartsWithIt ticket what = Unit {0}

-- A text spells the ticket, and all starts that have it agree on its kind and its times. Some starts may not have it.
-- Weights, handlers and prerequisites may differ.
pub record IsOneTicket (w : World) (ticket : TicketConf) : Type 0 where
  pub config : ConfigSays
  pub sound : IsSound config
  pub place : ℕ
  pub said : slice_get config.tickets place ≡ Some ticket
  pub same : AtEach w (λ before entry. StartsWithIt ticket entry.what)

-- The start has this configuration.
abbrev pub StartsIn : ConfigSays → SessionEntry → Type 0
StartsIn config (Starts node reading records) = node.config ≡ config
StartsIn config what = Unit {0}

-- If all starts have the same configuration, each of its tickets is one ticket of the world.
abbrev pub OneConfigurationIsEnough : Type 0
OneConfigurationIsEnough =
    (w : World) (config : ConfigSays) → IsSound config → AtEach w (λ before entry. StartsIn config entry.what)
    → (place : ℕ) (ticket : TicketConf) → slice_get config.tickets place ≡ Some ticket → IsOneTicket w ticket
