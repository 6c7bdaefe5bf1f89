-- The three laws (one holder, holders apart, terms never fall), for each ticket of each world of entries.
use Rattle.std.specs.Prelude.{◌≡◌, ◌≢◌, ◌⊎◌, ◌++◌, ℕ, ◌<◌, ◌≤◌, List, [], ◌∷◌, map, true, Ok, Some, None}
use Rattle.std.specs.Option.{ForSome}
use Rattle.booth_conf.specs.declared.tickets.TicketConf.{TicketConf}
use Rattle.booth_rec.specs.declared.record.Lease.{Lease}
use Rattle.booth_rec.specs.declared.record.Record.{Record}
use Rattle.booth_base.specs.Tree.{Ends}
use Rattle.booth_host.specs.declared.entry.Entry.{Entry}
use Rattle.booth_host.specs.declared.entry.Entry.TheVariants as calls
use Rattle.booth_node.specs.declared.node_config.NodeConfig.{NodeConfig}
use Rattle.booth_node.specs.Log.{IsNodeLog, IsStoppedLog}
use Rattle.booth_node.specs.Opening.{is_site_at}
use Rattle.booth_node.specs.State.{State}
use Rattle.booth_node.specs.Session.{SessionEntry, Makes, Stand, Doing, AreSessions, after_entries}
use Rattle.booth_node.specs.Records.{Has}
use Rattle.booth_node.specs.World.{WorldEntry, World, members_of, stand_after, IsOneTicket, IsWorld, IsSecondWorld, IsUntimedWorld, RecordsGoOn}
use Rattle.booth_node.specs.Held.{Moment, IsAutomatic, may_at, HoldsBy, Holds}
use Rattle.booth_world.specs.Clusters.{cluster_of}
use Rattle.booth_world.specs.Held.{IsApartFrom}
use Rattle.booth_world.specs.Revocations.{GoesOnToRevoke, AtSome}

-- ---- two moments

-- The second moment is not before the first, and these are the entries between the two.
pub record IsLater (w : World) (early late : Moment w) (between : List WorldEntry) : Type 0 where
  pub entries : late.before ≡ early.before ++ between
  pub not_before : early.time ≤ late.time

-- A successful write for the ticket by this member released its lease, and left this state. The write's record has no
-- lease, and its term is no smaller than the lease's. The member then informs each other member that this term was
-- released. The record of a new term may have no lease either, but then the member requests votes next.
abbrev pub GivesBack : World → List ℕ → ℕ → Record → Stand → SessionEntry → Type 0
GivesBack w name m kept after (Makes (calls.Keep ticket rec (Ok done))) =
    (ticket ≡ name) × (rec.lease ≡ None) × ForSome kept.lease (λ given. given.term ≤ rec.term)
    × GoesOnToRevoke w name rec.term m after
GivesBack w name m kept after what = ⊥

-- An entry of the member among these entries released the lease.
abbrev pub ReleasedIn : World → TicketConf → ℕ → Record → List WorldEntry → List WorldEntry → Type 0
ReleasedIn w ticket s kept before between =
    AtSome before between
    (λ earlier entry.
    (entry.member ≡ s) × GivesBack w ticket.name s kept (stand_after s (earlier ++ entry ∷ [])) entry.what)

-- ---- the laws

-- No two members ever hold an automatic ticket at the same moment of the world.
abbrev pub HoldsOneIn : World → Type 0
HoldsOneIn w =
    (ticket : TicketConf) → IsAutomatic w ticket
    → (moment : Moment w) (s t : ℕ) → Holds w ticket s moment → Holds w ticket t moment → s ≡ t

abbrev pub WorldsHoldOne : Type 0
WorldsHoldOne = (w : World) → IsWorld w → HoldsOneIn w

-- One member holds the ticket by a record, and another member holds it later. Then acquire-after lies between each
-- time at which that record was in force and the later time, or a write between the two released the record's lease.
abbrev pub WorldsAreApart : Type 0
WorldsAreApart =
    (w : World) → IsWorld w → (ticket : TicketConf) → IsAutomatic w ticket
    → (early late : Moment w) (between : List WorldEntry) → IsLater w early late between
    → (s t : ℕ) → s ≢ t → (kept : Record)
    → HoldsBy w ticket s early kept → Holds w ticket t late
    → IsApartFrom (cluster_of w ticket) ticket.times.after s kept early.time late.time
    ⊎ ReleasedIn w ticket s kept early.before between

-- If each record that a site may have written for a ticket has at least this term, then so has each record that it may
-- have written later. The same holds for an arbitrator if each start goes on.
abbrev pub TermsNeverFallIn : World → Type 0
TermsNeverFallIn w =
    (ticket : TicketConf) → IsOneTicket w ticket
    → (early late : Moment w) (between : List WorldEntry) → IsLater w early late between
    → (s term : ℕ) → s < members_of w → (is_site_at w.members s ≡ true) ⊎ RecordsGoOn w
    → ((kept : Record) → Has (may_at w ticket s early) kept → term ≤ kept.term)
    → (kept : Record) → Has (may_at w ticket s late) kept → term ≤ kept.term

abbrev pub WorldTermsNeverFall : Type 0
WorldTermsNeverFall = (w : World) → IsUntimedWorld w → TermsNeverFallIn w

-- If two members hold the ticket by leases, one after the other, the later lease has the greater term.
abbrev pub LaterTermsIn : World → Type 0
LaterTermsIn w =
    (ticket : TicketConf) → IsAutomatic w ticket
    → (early late : Moment w) (between : List WorldEntry) → IsLater w early late between
    → (s t : ℕ) → s ≢ t → (kept other : Record) (first second : Lease)
    → kept.lease ≡ Some first → other.lease ≡ Some second
    → HoldsBy w ticket s early kept → HoldsBy w ticket t late other → first.term < second.term

-- Later holders have greater terms in each world whose sessions are all of version 2 and go on.
abbrev pub LaterHoldersHaveLaterTerms : Type 0
LaterHoldersHaveLaterTerms = (w : World) → IsWorld w → IsSecondWorld w → RecordsGoOn w → LaterTermsIn w

-- ---- logs of nodes

-- A list of calls that all have answers.
abbrev pub made : List Entry → List SessionEntry
made calls = map (λ call. Makes call) calls

-- The calls of many turns are the calls of a session. The session begins in the state in which the turns begin, and
-- after them it is between two turns.
abbrev pub LogsAreSessions : Type 0
LogsAreSessions =
    (node : NodeConfig) (old new : State) (count : ℕ) (entries : List Entry) → IsNodeLog node old count new entries
    → AreSessions (Doing node (Ends old)) (made entries)
    × (after_entries (Doing node (Ends old)) (made entries) ≡ Doing node (Ends new))

-- The calls of many turns are the calls of a session, even if the last of the turns stopped.
abbrev pub StoppedLogsAreSessions : Type 0
StoppedLogsAreSessions =
    (node : NodeConfig) (old new : State) (entries : List Entry) → IsStoppedLog node old new entries
    → AreSessions (Doing node (Ends old)) (made entries)
    × (after_entries (Doing node (Ends old)) (made entries) ≡ Doing node (Ends new))

-- A session up to any of its entries is a session too.
abbrev pub CutSessionsAreSessions : Type 0
CutSessionsAreSessions =
    (stand : Stand) (early late : List SessionEntry) → AreSessions stand (early ++ late) → AreSessions stand early
