-- Every world has a shadow: for each moment and each automatic ticket, a list of the world's steps.
use Rattle.std.specs.Prelude.{◌≡◌, ◌≢◌, ◌⊎◌, ◌++◌, ℕ, ◌<◌, Bool, true, false, if◌then◌else◌, List, [], ◌∷◌, slice_get, position, is_some, Ok, Some, None}
use Rattle.booth_base.specs.Tree.{Deeds, Ends, Does}
use Rattle.booth_conf.specs.Lookups.{is_called}
use Rattle.booth_conf.specs.declared.tickets.TicketConf.{TicketConf}
use Rattle.booth_rec.specs.declared.record.Record.{Record}
use Rattle.booth_wire.specs.declared.command.Direction.TheVariants.{BetweenMembers}
use Rattle.booth_wire.specs.declared.message.TicketPart.{TicketPart}
use Rattle.booth_wire.specs.Command.{direction_of}
use Rattle.booth_wire.specs.PlainMessage.{PlainMessage, Ticket}
use Rattle.booth_wire.specs.Reading.{decoded}
use Rattle.booth_raft.specs.declared.view.View.{View}
use Rattle.booth_host.specs.declared.entry.Entry.TheVariants as calls
use Rattle.booth_ticket.specs.Ticket.{Automatic}
use Rattle.booth_node.specs.declared.node_config.NodeConfig.{NodeConfig}
use Rattle.booth_node.specs.Opening.{setup_of}
use Rattle.booth_node.specs.Reaction.{Ask, Send, Keep, Start}
use Rattle.booth_node.specs.Records.{Has}
use Rattle.booth_node.specs.Session.{SessionEntry, Starts, Makes, IsCut, Stand, Down, Doing, Hearing, after_call, after_entry}
use Rattle.booth_node.specs.State.{State}
use Rattle.booth_node.specs.World.{WorldEntry, World, members_of, id_at, entries_of, IsSend, stand_after, IsUntimedWorld, RecordsGoOn}
use Rattle.booth_node.specs.Held.{Moment, IsAutomatic, may_at, Holds}
use Rattle.booth_world.specs.Clusters.{cluster_going}
use Rattle.booth_world.specs.Agreement.{records_in, Agrees}
use Rattle.booth_world.specs.Facts.{Round, Answer, Release, Has as HasFact}
use Rattle.booth_world.specs.Held.{Held}
use Rattle.booth_world.specs.Messages.{IsFact}
use Rattle.booth_world.specs.Revocations.{GoesOnToRevoke, AtSome}
use Rattle.booth_world.specs.States.{WorldState, opening}
use Rattle.booth_world.specs.Steps.{WorldStep, IsRun, world_of}

-- ---- the state of a member, according to the entries

-- For some answers, the first write for the ticket among these actions is the write of this record.
abbrev pub KeepsNext : List ℕ → Deeds Ask State → Record → Type 0
KeepsNext name (Ends state) kept = ⊥
KeepsNext name (Does (Send peer message) go) kept = (ok : Bool) × KeepsNext name (go ok) kept
KeepsNext name (Does (Keep ticket tried) go) kept =
    ((ticket ≡ name) × (tried ≡ kept)) ⊎ ((ticket ≢ name) × (ok : Bool) × KeepsNext name (go ok) kept)
KeepsNext name (Does (Start job) go) kept = (ok : Bool) × KeepsNext name (go ok) kept

-- The node's configuration has the ticket with this name.
abbrev pub has_ticket : List ℕ → NodeConfig → Bool
has_ticket name node = is_some (position (is_called name) node.config.tickets)

-- The state of a member in its last session that has the ticket, and whether that session is its current one. An
-- interrupted call does not change the state.
pub record LastStand : Type 0 where
  pub now : Bool
  pub stand : Stand

abbrev pub last_after : List ℕ → LastStand → SessionEntry → LastStand
last_after name last (Starts node reading records) =
    if has_ticket name node then record { now = true; stand = after_entry last.stand (Starts node reading records) }
    else record { now = false; stand = last.stand }
last_after name last (Makes call) =
    if last.now then record { now = true; stand = after_call last.stand call } else last
last_after name last (IsCut call) = last

abbrev pub last_after_all : List ℕ → LastStand → List SessionEntry → LastStand
last_after_all name last [] = last
last_after_all name last (entry ∷ entries) = last_after_all name (last_after name last entry) entries

abbrev pub IsNextAt : List ℕ → Stand → Record → Type 0
IsNextAt name (Doing node deeds) kept = KeepsNext name deeds kept
IsNextAt name stand kept = ⊥

-- In its last session that has the ticket, the member is in a turn, or was interrupted in one. The turn writes this
-- record next for the ticket.
abbrev pub IsComing : List ℕ → List SessionEntry → Record → Type 0
IsComing name entries kept =
    IsNextAt name (last_after_all name (record { now = false; stand = Down }) entries).stand kept

-- An entry releases the term of the record that it wrote. The entry is a successful write for the ticket, by this
-- member at this time; its record has no lease; and the member then informs each other member.
abbrev pub GivesTermBack : World → List ℕ → ℕ → ℕ → Stand → SessionEntry → Release → Type 0
GivesTermBack w name m time after (Makes (calls.Keep ticket rec (Ok done))) release =
    (ticket ≡ name) × (rec.lease ≡ None) × (release.site ≡ m) × (release.term ≡ rec.term) × (release.at ≡ time)
    × GoesOnToRevoke w name rec.term m after
GivesTermBack w name m time after what release = ⊥

-- The node has this state and no action of a turn is left. It is between two turns, or it has the answer of a `next`
-- and reads its clock next.
abbrev pub RestsIn : Stand → NodeConfig → State → Type 0
RestsIn (Doing node (Ends state)) own resting = (node ≡ own) × (state ≡ resting)
RestsIn (Hearing node old answer bytes) own resting = (node ≡ own) × (old ≡ resting)
RestsIn stand own resting = ⊥

-- The clock gave this reading, in a turn or at a start.
abbrev pub TakesReading : SessionEntry → ℕ → Type 0
TakesReading (Starts node reading records) taken = reading ≡ taken
TakesReading (Makes (calls.Now reading)) taken = reading ≡ taken
TakesReading what taken = ⊥

-- One of the entries is this member's reading of its clock at this true time.
pub record IsReadIn (before : List WorldEntry) (m reading time : ℕ) : Type 0 where
  pub entry : WorldEntry
  pub one : Has before entry
  pub own : entry.member ≡ m
  pub at : entry.time ≡ time
  pub taken : TakesReading entry.what reading

-- An entry sent this message of a member about the ticket. The send may have failed, or been interrupted.
pub record IsSentIn (name : List ℕ) (before : List WorldEntry) (m : ℕ) (message : PlainMessage) (part : TicketPart)
    : Type 0 where
  pub entry : WorldEntry
  pub one : Has before entry
  pub own : entry.member ≡ m
  pub bytes : List ℕ
  pub sent : IsSend entry.what bytes
  pub read : decoded bytes ≡ Ok message
  pub members : direction_of message.head.cmd ≡ BetweenMembers
  pub about : message.content ≡ Ticket part
  pub named : part.ticket ≡ name

-- ---- versions

-- Whether a member's last session that has the ticket is of version 2 after this entry. A start has its node's
-- version.
abbrev pub second_after : List ℕ → Bool → SessionEntry → Bool
second_after name second (Starts node reading records) = if has_ticket name node then node.second else second
second_after name second entry = second

abbrev pub second_after_all : List ℕ → Bool → List SessionEntry → Bool
second_after_all name second [] = second
second_after_all name second (entry ∷ entries) = second_after_all name (second_after name second entry) entries

-- Whether the member's last session that has the ticket is of version 2. Before any session, its beginning decides.
abbrev pub is_second_at : World → List ℕ → ℕ → List WorldEntry → Bool
is_second_at w name m before = second_after_all name (w.begins m).second (entries_of m before)

-- ---- the shadow

-- The records that a member may have written, according to the steps.
abbrev pub records_of : World → WorldState → ℕ → List Record
records_of w state m = records_in (id_at w) (state.member m).may

-- The node's knowledge about the ticket at its place in the configuration agrees with the member of the steps. Its
-- rules are of the member's version, its view agrees with the member, no write waits, and the last reading is the
-- member's.
pub record Knows (w : World) (going : Bool) (ticket : TicketConf) (m : ℕ) (node : NodeConfig) (place : ℕ)
    (own : TicketConf) (resting : State) (state : WorldState) : Type 0 where
  pub view : View
  pub known : slice_get resting.tickets place
      ≡ Some (record { setup = setup_of node place own; known = Automatic view })
  pub version : node.second ≡ (state.member m).second
  pub none_waits : view.waiting ≡ None
  pub reading : resting.last_reading ≡ (state.member m).reading
  pub agrees : Agrees (cluster_going going w ticket) (id_at w) state.facts m view (state.member m)

-- The shadow of this moment: steps from the opening state up to it. After these steps the following holds. Each
-- member's last session is of the version of its last start that has the ticket. The records that a member may have
-- written are the records of the entries, and the record that the member's turn writes next. If a node rests between
-- its turns, its knowledge about the ticket agrees with its member. Each release is the release of an entry, after
-- which the member's turn informs the others. Each round was opened, and each answer given, at a reading that an
-- entry of the same member took. Each message that an entry sent states a fact: a round was opened, a round was
-- answered, or a term was released. A member that holds the ticket according to the entries holds it in the state
-- after these steps. If `going` is true, each start among the steps goes on.
pub record HasShadow (w : World) (going : Bool) (ticket : TicketConf) (moment : Moment w) : Type 0 where
  pub steps : List WorldStep
  pub run : IsRun (cluster_going going w ticket) (opening (cluster_going going w ticket)) steps
  pub now : (world_of (cluster_going going w ticket) steps).now ≡ moment.time
  pub versions : (m : ℕ) → m < members_of w
      → ((world_of (cluster_going going w ticket) steps).member m).second ≡ is_second_at w ticket.name m moment.before
  pub records : (m : ℕ) → m < members_of w → (kept : Record) → Has (may_at w ticket m moment) kept
      → Has (records_of w (world_of (cluster_going going w ticket) steps) m) kept
  pub no_more : (m : ℕ) → m < members_of w → (kept : Record)
      → Has (records_of w (world_of (cluster_going going w ticket) steps) m) kept
      → Has (may_at w ticket m moment) kept ⊎ IsComing ticket.name (entries_of m moment.before) kept
  pub knows : (m : ℕ) → m < members_of w → (node : NodeConfig) (resting : State)
      → RestsIn (stand_after m moment.before) node resting
      → (place : ℕ) (own : TicketConf) → slice_get node.config.tickets place ≡ Some own → own.name ≡ ticket.name
      → Knows w going ticket m node place own resting (world_of (cluster_going going w ticket) steps)
  pub releases : (release : Release) → HasFact (world_of (cluster_going going w ticket) steps).facts.releases release
      → AtSome [] moment.before
      (λ before entry.
      GivesTermBack w ticket.name entry.member entry.time (stand_after entry.member (before ++ entry ∷ [])) entry.what
      release)
  pub rounds : (round : Round) → HasFact (world_of (cluster_going going w ticket) steps).facts.rounds round
      → IsReadIn moment.before round.site round.opened round.at
  pub answers : (answer : Answer) → HasFact (world_of (cluster_going going w ticket) steps).facts.answers answer
      → IsReadIn moment.before answer.member answer.reading answer.at
  pub said : (m : ℕ) (message : PlainMessage) (part : TicketPart) → IsSentIn ticket.name moment.before m message part
      → IsFact (id_at w) (world_of (cluster_going going w ticket) steps).facts m message.head part message.head.cmd
  pub held : (m : ℕ) → Holds w ticket m moment
      → Held (cluster_going going w ticket) (world_of (cluster_going going w ticket) steps) m

abbrev pub WorldsHaveShadows : Type 0
WorldsHaveShadows =
    (w : World) → IsUntimedWorld w → (going : Bool) → (going ≡ true → RecordsGoOn w)
    → (ticket : TicketConf) → IsAutomatic w ticket → (moment : Moment w) → HasShadow w going ticket moment
