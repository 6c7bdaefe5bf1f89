-- Entries of the hosts of one ticket at all members, and the state of each member after them. A crash may interrupt a
-- turn anywhere. The records that may have been written follow from the results of writes alone.
use Rattle.std.specs.Prelude.{◌≡◌, ℕ, ◌<◌, ◌≤◌, List, [], ◌∷◌, Bool, true, false, Option, Some, None, IsSomeAnd}
use Rattle.std.specs.Option.{ForSome}
use Rattle.booth_base.specs.Tree.{Ends, Does}
use Rattle.booth_rec.specs.declared.record.Record.{Record}
use Rattle.booth_wire.specs.declared.message.Setup.{Setup}
use Rattle.booth_raft.specs.declared.view.View.{View}
use Rattle.booth_world.specs.Facts.{Has}
use Rattle.booth_world.specs.States.{put, Cluster, IsIn, reads}
use Rattle.booth_world.specs.Agreement.{record_in}
use Rattle.booth_world.specs.Reading.{MayBeRead, IsLaterOrKept}
use Rattle.booth_world.specs.Rules.{MemberMessage, lease_rules}
use Rattle.booth_world.specs.Cores.{Session, opening_session, Cast, number_in}
use Rattle.booth_world.specs.Turns.{TicketAsk, Keeps, Sends, TurnTree, Plan, turn_tree, MayTurn}

-- ---- entries

-- An event. Either true time passes, or one of these happens at one member: a turn begins at a reading, perhaps with
-- a message; the next request of its turn gets its answer; the member stops, at any point; or it starts at a reading,
-- with a record, in a new session.
pub data HostEntry : Type 0 where
  LetsPass : (time : ℕ) → HostEntry
  BeginsTurn : (m time : ℕ) (came : Option MemberMessage) (plan : View → Plan) → HostEntry
  DoesAsk : (m : ℕ) (ask : TicketAsk) (ok : Bool) → HostEntry
  Halts : (m : ℕ) → HostEntry
  Boots : (m time : ℕ) (session : Session) (kept : Record) → HostEntry

-- ---- the state of the members after entries

-- The state of a member: the rest of its turn while it is up; its last session; its last reading; and the records
-- that its writes may have left.
pub record HostPlace : Type 0 where
  pub tree : Option TurnTree
  pub session : Session
  pub reading : ℕ
  pub may : List Record

pub record Hosts : Type 0 where
  pub now : ℕ
  pub place : ℕ → HostPlace
  pub sent : List MemberMessage

-- The state before any start: each member has its beginning.
abbrev pub opening_hosts : Cluster → Cast → Hosts
opening_hosts c cast = record {
  now = 0;
  place = λ m. record {
    tree = None;
    session = opening_session (c.begins m).second;
    reading = reads c m 0;
    may = record_in cast.id_of (c.begins m).kept ∷ [];
  };
  sent = [];
}

-- The records that a turn's writes may have left. The next write may already be done, although it has no result.
abbrev pub pending_in : TurnTree → List Record → List Record
pending_in (Does (Keeps kept) go) may = kept ∷ may
pending_in tree may = may

abbrev pub pending : Option TurnTree → List Record → List Record
pending None may = may
pending (Some tree) may = pending_in tree may

-- ---- the entries that may come next

-- The last turn has ended, and this turn may begin next.
abbrev pub MayBegin : Setup → ℕ → Option MemberMessage → (View → Plan) → TurnTree → Type 0
MayBegin s now came plan (Ends view) = MayTurn s now view came plan
MayBegin s now came plan (Does ask go) = ⊥

abbrev pub IsNextAsk : TicketAsk → TurnTree → Type 0
IsNextAsk ask (Ends view) = ⊥
IsNextAsk ask (Does first go) = first ≡ ask

-- A message that arrives was sent, and has its sender's id. A host knows its sender by the place in its own
-- configuration.
abbrev pub MayCome : Cluster → Cast → Session → Hosts → MemberMessage → Type 0
MayCome c cast session hosts message =
    (Has hosts.sent (record message { sender = number_in c session message.sender }))
    × (message.head.from ≡ cast.id_of (number_in c session message.sender))
    × (message.sender < (c.phase session.phase).seats.size)

-- The phase of the session has not closed at this time.
abbrev pub IsOpenAt : Cluster → Session → ℕ → Type 0
IsOpenAt c session time = time ≤ (c.phase session.phase).closes

-- The condition of an entry. A start reads the record of the last write that was done, or the record of a later write
-- that failed or was interrupted, or a silent record. It is not of version 1 after one of version 2. Its member has a
-- place in its phase, which is open. After the phase has closed, the member does nothing.
abbrev pub MayHost : Cluster → Cast → Hosts → HostEntry → Type 0
MayHost c cast hosts (LetsPass time) = (hosts.now ≤ time) × (time < c.span)
MayHost c cast hosts (BeginsTurn m time came plan) =
    (m < c.members) × (hosts.now ≤ time) × (time < c.span)
    × IsSomeAnd (hosts.place m).tree (MayBegin (cast.setup m (hosts.place m).session) (reads c m time) came plan)
    × ForSome came (MayCome c cast (hosts.place m).session hosts)
    × IsOpenAt c (hosts.place m).session time
MayHost c cast hosts (DoesAsk m ask ok) =
    (m < c.members) × IsSomeAnd (hosts.place m).tree (IsNextAsk ask) × IsOpenAt c (hosts.place m).session hosts.now
MayHost c cast hosts (Halts m) =
    (m < c.members) × IsSomeAnd (hosts.place m).tree (λ tree. Unit {0})
MayHost c cast hosts (Boots m time session kept) =
    (m < c.members) × (hosts.now ≤ time) × (time < c.span)
    × ((hosts.place m).tree ≡ None) × MayBeRead (c.is_site m) (hosts.place m).may kept
    × ((hosts.place m).session.second ≡ true → session.second ≡ true)
    × (c.goes_on ≡ true → IsLaterOrKept (hosts.place m).may kept)
    × ((c.phase session.phase).opens ≤ time) × IsOpenAt c session time × IsIn c session.phase m

-- ---- the state after an entry

abbrev pub begun : Setup → ℕ → Option MemberMessage → (View → Plan) → Option TurnTree
    → Option TurnTree
begun s now came plan (Some (Ends view)) = Some (turn_tree s now view came plan)
begun s now came plan tree = tree

abbrev pub went_on : Bool → Option TurnTree → Option TurnTree
went_on ok (Some (Does ask go)) = Some (go ok)
went_on ok tree = tree

abbrev pub may_left : TicketAsk → Bool → List Record → List Record
may_left (Keeps kept) true may = kept ∷ []
may_left (Keeps kept) false may = kept ∷ may
may_left ask ok may = may

-- A member sends under its own number in the cluster.
abbrev pub sent_more : ℕ → TicketAsk → List MemberMessage → List MemberMessage
sent_more m (Sends message) sent = record message { sender = m } ∷ sent
sent_more m ask sent = sent

abbrev pub hosted : Cluster → Cast → Hosts → HostEntry → Hosts
hosted c cast hosts (LetsPass time) = record hosts { now = time }
hosted c cast hosts (BeginsTurn m time came plan) = record hosts {
  now = time;
  place = put hosts.place m (record (hosts.place m) {
    tree = begun (cast.setup m (hosts.place m).session) (reads c m time) came plan (hosts.place m).tree;
    reading = reads c m time;
  });
}
hosted c cast hosts (DoesAsk m ask ok) = record hosts {
  place = put hosts.place m (record (hosts.place m) {
    tree = went_on ok (hosts.place m).tree;
    may = may_left ask ok (hosts.place m).may;
  });
  sent = sent_more m ask hosts.sent;
}
hosted c cast hosts (Halts m) = record hosts {
  place = put hosts.place m (record (hosts.place m) {
    tree = None;
    may = pending (hosts.place m).tree (hosts.place m).may;
  });
}
hosted c cast hosts (Boots m time session kept) = record hosts {
  now = time;
  place = put hosts.place m (record {
    tree = Some (Ends (lease_rules.start (cast.setup m session) kept (reads c m time)));
    session = session;
    reading = reads c m time;
    may = kept ∷ [];
  });
}

-- Each entry is allowed in the state before it.
abbrev pub AreHosted : Cluster → Cast → Hosts → List HostEntry → Type 0
AreHosted c cast hosts [] = Unit {0}
AreHosted c cast hosts (entry ∷ entries) =
    MayHost c cast hosts entry × AreHosted c cast (hosted c cast hosts entry) entries

abbrev pub hosts_after : Cluster → Cast → Hosts → List HostEntry → Hosts
hosts_after c cast hosts [] = hosts
hosts_after c cast hosts (entry ∷ entries) =
    hosts_after c cast (hosted c cast hosts entry) entries
