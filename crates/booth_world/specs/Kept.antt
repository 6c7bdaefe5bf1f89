-- The laws on which clients rely: about writes that failed, about the kinds of tickets, and about waiting clients.
use Rattle.std.specs.Prelude.{◌≡◌, ◌⊎◌, ℕ, ◌<◌, Bool, true, false, List, [], Option, Some, None, is_some, slice_get}
use Rattle.booth_base.specs.Tree.{Deeds, Ends, Does, Always}
use Rattle.booth_conf.specs.declared.tickets.TicketConf.{TicketConf}
use Rattle.booth_rec.specs.declared.record.Record.{Record}
use Rattle.booth_wire.specs.declared.message.Head.{Head}
use Rattle.booth_wire.specs.declared.message.Setup.{Setup}
use Rattle.booth_wire.specs.declared.message.TicketPart.{TicketPart}
use Rattle.booth_raft.specs.declared.deed.Told.{Told}
use Rattle.booth_raft.specs.State.{Step}
use Rattle.booth_ticket.specs.declared.handling.Service.{Service}
use Rattle.booth_ticket.specs.declared.request.Given.{Given}
use Rattle.booth_ticket.specs.declared.request.Request.{Request}
use Rattle.booth_ticket.specs.declared.waiters.Waiter.{Waiter}
use Rattle.booth_ticket.specs.Acts.{Ask, Keep, Say, Start}
use Rattle.booth_ticket.specs.Keeping.{carry_out}
use Rattle.booth_ticket.specs.Manual.{ManualKnown, ManualLeft, ManualState, manual_heard, manual_started}
use Rattle.booth_ticket.specs.ManualHandling.{manual_deadline, manual_due, manual_over}
use Rattle.booth_ticket.specs.ManualRequests.{manual_asked}
use Rattle.booth_ticket.specs.Ticket.{TicketState, Known, Automatic, Manual}
use Rattle.booth_ticket.specs.Waiting.{result_for, tell_each}
use Rattle.booth_node.specs.Records.{Has}
use Rattle.booth_node.specs.State.{State}
use Rattle.booth_node.specs.Session.{Stand, Doing, Hearing}
use Rattle.booth_node.specs.declared.node_config.NodeConfig.{NodeConfig}
use Rattle.booth_node.specs.World.{World, IsOneTicket, members_of, stand_after, IsUntimedWorld}
use Rattle.booth_node.specs.Held.{Moment}

-- ---- writes that failed

abbrev pub AreOver : {S : Type 0} → Deeds Ask S → Type 0
AreOver (Ends left) = Unit {0}
AreOver (Does ask go) = ⊥

-- Nothing follows a write that failed: the member writes no record and sends no message.
abbrev pub EndsByFailure : {S : Type 0} → Deeds Ask S → Type 0
EndsByFailure (Ends left) = Unit {0}
EndsByFailure (Does (Keep tried) go) = AreOver (go false) × EndsByFailure (go true)
EndsByFailure (Does (Say to head part) go) = (ok : Bool) → EndsByFailure (go ok)
EndsByFailure (Does (Start job expires) go) = (ok : Bool) → EndsByFailure (go ok)

-- A write that fails ends all actions of a step of the lease rules.
abbrev pub FailedKeepsSayNothing : Type 0
FailedKeepsSayNothing = (from : Option ℕ) (now : ℕ) (begun : Step) → EndsByFailure (carry_out from now begun)

-- ---- kinds

-- The ticket is manual, or automatic, as the argument says.
abbrev pub IsOfKind : Bool → Known → Type 0
IsOfKind true (Manual known) = Unit {0}
IsOfKind false (Automatic view) = Unit {0}
IsOfKind manual known = ⊥

-- If the node's configuration has the ticket, the node has a ticket of the same kind at its place.
abbrev pub StandsInKind : TicketConf → NodeConfig → State → Type 0
StandsInKind ticket node state =
    (place : ℕ) (own : TicketConf) → slice_get node.config.tickets place ≡ Some own → own.name ≡ ticket.name
    → (t : TicketState) × (slice_get state.tickets place ≡ Some t) × IsOfKind ticket.manual t.known

-- The ticket has its configured kind between two turns, and when a turn begins.
abbrev pub RestsInKind : TicketConf → Stand → Type 0
RestsInKind ticket (Doing node (Ends state)) = StandsInKind ticket node state
RestsInKind ticket (Hearing node old answer bytes) = StandsInKind ticket node old
RestsInKind ticket stand = Unit {0}

-- The tickets of a node keep the kinds that the configuration gives them.
abbrev pub TicketsKeepTheirKinds : Type 0
TicketsKeepTheirKinds =
    (w : World) → IsUntimedWorld w → (ticket : TicketConf) → IsOneTicket w ticket
    → (m : ℕ) → m < members_of w → (moment : Moment w) → RestsInKind ticket (stand_after m moment.before)

-- ---- waiting clients

-- Any request is allowed.
abbrev pub AnyAsk : Ask → Type 0
AnyAsk ask = Unit {0}

-- A client that is sent an outcome no longer waits: a client that still waits was sent nothing.
abbrev pub ToldStopWaiting : Type 0
ToldStopWaiting =
    (setup : Setup) (part : TicketPart) (told : Told) (waiters : List Waiter)
    → Always AnyAsk (λ left. (waiter : Waiter) → Has left waiter → result_for told waiter ≡ None)
    (tell_each setup part told waiters)

-- A client that waits for a manual ticket never waits for a record alone, and no client waits while no handler runs.
pub record WaitForJob (known : ManualKnown) (waiters : List Waiter) : Type 0 where
  pub uncommitted : (waiter : Waiter) → Has waiters waiter → waiter.commit ≡ false
  pub idle : known.job ≡ None → waiters ≡ []

abbrev pub LeavesJobs : Deeds Ask ManualLeft → Type 0
LeavesJobs deeds = Always AnyAsk (λ left. WaitForJob left.ticket.known left.waiters) deeds

-- Clients wait only for a running handler: this holds when a manual ticket starts, and every event leaves it true. If
-- a client waits, the ticket has a deadline.
pub record ManualWaitersHaveJobs : Type 0 where
  pub starts : (rec : Record) (now : ℕ) → WaitForJob (manual_started rec now) []
  pub heard : (ticket : ManualState) (from : ℕ) (head : Head) (part : TicketPart) (waiters : List Waiter)
      → WaitForJob ticket.known waiters
      → Always AnyAsk (λ left. WaitForJob left.known waiters) (manual_heard ticket from head part)
  pub due : (ticket : ManualState) (waiters : List Waiter) (now : ℕ) → WaitForJob ticket.known waiters
      → LeavesJobs (manual_due ticket waiters now)
  pub over : (ticket : ManualState) (waiters : List Waiter) (job : ℕ) (service : Service)
      → WaitForJob ticket.known waiters → LeavesJobs (manual_over ticket waiters job service)
  pub asked : (ticket : ManualState) (waiters : List Waiter) (spare : ℕ) (given : Given) (request : Request)
      → WaitForJob ticket.known waiters → LeavesJobs (manual_asked ticket waiters spare given request)
  pub coming : (known : ManualKnown) (waiters : List Waiter) → WaitForJob known waiters
      → (waiters ≡ []) ⊎ (is_some (manual_deadline known) ≡ true)
