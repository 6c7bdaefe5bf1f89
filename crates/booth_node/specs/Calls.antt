-- The calls of a turn, as actions of tickets and as messages between members.
use Rattle.std.specs.Prelude.{◌≡◌, ◌⊎◌, ℕ, Bool, true, false, List, [], ◌∷◌, ◌++◌, Some, Result, Ok, is_ok, slice_get}
use Rattle.booth_base.specs.declared.address.MemberId.{MemberId}
use Rattle.booth_base.specs.declared.address.Peer.{Peer}
use Rattle.booth_base.specs.Tree.{Ends, Leads}
use Rattle.booth_conf.specs.declared.tickets.TicketConf.{TicketConf}
use Rattle.booth_wire.specs.declared.codes.results.TheConstants.{SUCCESS, FAIL, PEND, XPRG}
use Rattle.booth_wire.specs.declared.command.Cmd.TheVariants.{RGnt}
use Rattle.booth_wire.specs.declared.command.Direction.TheVariants.{BetweenMembers}
use Rattle.booth_wire.specs.declared.message.Head.{Head}
use Rattle.booth_wire.specs.declared.message.Setup.{Setup}
use Rattle.booth_wire.specs.declared.message.TicketPart.{TicketPart}
use Rattle.booth_wire.specs.Command.{direction_of}
use Rattle.booth_wire.specs.PlainMessage.{PlainMessage, Content, Ticket}
use Rattle.booth_auth.specs.Sealed.{sealed}
use Rattle.booth_auth.specs.Verdict.{verdict}
use Rattle.booth_host.specs.declared.host.Arrival.TheVariants as arrivals
use Rattle.booth_host.specs.declared.host.Failed.{Failed}
use Rattle.booth_host.specs.declared.entry.Entry.{Entry}
use Rattle.booth_host.specs.declared.entry.Entry.TheVariants as calls
use Rattle.booth_ticket.specs.declared.hands.To.TheVariants.{Member}
use Rattle.booth_ticket.specs.declared.waiters.Waiter.{Waiter}
use Rattle.booth_ticket.specs.Acts.{Act, Ask as TicketAsk, Keep as KeepsRecord, Start as StartsJob, Say}
use Rattle.booth_ticket.specs.Ticket.{Automatic}
use Rattle.booth_ticket.specs.Waiting.{Left, waiting_at}
use Rattle.booth_node.specs.declared.node.Turn.TheVariants.{Went}
use Rattle.booth_node.specs.declared.node_config.NodeConfig.{NodeConfig}
use Rattle.booth_node.specs.Jobs.{job_of}
use Rattle.booth_node.specs.Reaction.{IsDone, dues, peer_of, react, sent_as}
use Rattle.booth_node.specs.State.{State}

-- ---- calls for a ticket's actions

-- This call is a ticket's action with this answer: a write under the ticket's name, a start of its handler, or a send
-- of the message, sealed at this moment, to its receiver.
abbrev pub IsCallOf : NodeConfig → ℕ → List ℕ → TicketAsk → Bool → Entry → Type 0
IsCallOf node now name (KeepsRecord tried) ok (calls.Keep ticket rec answer) =
    (ticket ≡ name) × (rec ≡ tried) × (is_ok answer ≡ ok)
IsCallOf node now name (StartsJob number expires) ok (calls.Start job ticket handler local until answer) =
    (record { number = job; ticket = ticket; handler = handler; local = local; expires = until }
    ≡ job_of node name number expires)
    × (is_ok answer ≡ ok)
IsCallOf node now name (Say to head part) ok (calls.Send peer bytes answer) =
    (peer_of node.config to ≡ Some peer) × (bytes ≡ sealed node.ring (sent_as node now head part))
IsCallOf node now name ask ok call = ⊥

-- These calls are these actions, one for one.
abbrev pub AreCallsOf : NodeConfig → ℕ → List ℕ → List Act → List Entry → Type 0
AreCallsOf node now name [] [] = Unit {0}
AreCallsOf node now name (act ∷ acts) (call ∷ calls) =
    IsCallOf node now name act.ask act.ok call × AreCallsOf node now name acts calls
AreCallsOf node now name acts calls = ⊥

-- The call is not a write, or it is a write that succeeded.
abbrev pub IsNoFailedKeep : Entry → Type 0
IsNoFailedKeep (calls.Keep ticket rec answer) = is_ok answer ≡ true
IsNoFailedKeep call = Unit {0}

-- If the first call is a write, it succeeded.
abbrev pub KeepsFirst : List Entry → Type 0
KeepsFirst [] = Unit {0}
KeepsFirst (call ∷ calls) = IsNoFailedKeep call

-- ---- the receivers of calls

-- The client is one of these.
abbrev pub IsAmong : Waiter → List Waiter → Type 0
IsAmong waiter [] = ⊥
IsAmong waiter (other ∷ others) = (waiter ≡ other) ⊎ IsAmong waiter others

-- These bytes, to this peer, are a member's command from this member to a member of the configuration.
pub record IsBetweenMembers (node : NodeConfig) (peer : Peer) (bytes : List ℕ) : Type 0 where
  pub place : ℕ
  pub message : PlainMessage
  pub there : peer_of node.config (Member place) ≡ Some peer
  pub spelled : bytes ≡ sealed node.ring message
  pub between : direction_of message.head.cmd ≡ BetweenMembers
  pub from : message.head.from ≡ node.me

-- The results that end a grant for a client that waits: the grant was done, it failed, its handler failed, or the
-- record is not written yet. The last one is only for a client that does not wait for the write. A result that asks
-- the client to wait ends no grant.
abbrev pub EndsGrant : Waiter → ℕ → Type 0
EndsGrant waiter result =
    (result ≡ SUCCESS) ⊎ (result ≡ FAIL) ⊎ (result ≡ XPRG) ⊎ ((result ≡ PEND) × (waiter.commit ≡ false))

-- This message is the outcome of a grant for a client that waits. It has the client's request number, neither options
-- nor a reason, and comes from this member.
pub record IsOutcome (me : MemberId) (waiter : Waiter) (head : Head) : Type 0 where
  pub cmd : head.cmd ≡ RGnt
  pub request : head.request ≡ waiter.number
  pub options : head.options ≡ 0
  pub reason : head.reason ≡ 0
  pub result : EndsGrant waiter head.result
  pub from : head.from ≡ me

-- The message is about the ticket with this index of the configuration.
pub record NamesTicket (node : NodeConfig) (place : ℕ) (content : Content) : Type 0 where
  pub part : TicketPart
  pub ticket : TicketConf
  pub says : content ≡ Ticket part
  pub there : slice_get node.config.tickets place ≡ Some ticket
  pub named : part.ticket ≡ ticket.name

-- These bytes, to this peer, inform one of these waiting clients about the outcome of its grant, of the ticket for
-- which it waits.
pub record TellsWaiter (node : NodeConfig) (waiters : List (List Waiter)) (peer : Peer) (bytes : List ℕ)
    : Type 0 where
  pub place : ℕ
  pub waiter : Waiter
  pub message : PlainMessage
  pub waits : IsAmong waiter (waiting_at waiters place)
  pub to : waiter.from ≡ peer
  pub spelled : bytes ≡ sealed node.ring message
  pub outcome : IsOutcome node.me waiter message.head
  pub about : NamesTicket node place message.content

-- One of these calls sends this waiting client the outcome of its grant of the ticket at this place.
pub record IsToldIn (node : NodeConfig) (place : ℕ) (waiter : Waiter) (entries : List Entry) : Type 0 where
  pub before : List Entry
  pub message : PlainMessage
  pub answer : Result (Unit {0}) Failed
  pub after : List Entry
  pub whole : entries ≡ before ++ calls.Send waiter.from (sealed node.ring message) answer ∷ after
  pub outcome : IsOutcome node.me waiter message.head
  pub about : NamesTicket node place message.content

-- The call writes a record, starts a handler, or sends a message to a member or to one of these waiting clients. It
-- reaches no other client.
abbrev pub ReachesWaiters : NodeConfig → List (List Waiter) → Entry → Type 0
ReachesWaiters node waiters (calls.Keep ticket rec answer) = Unit {0}
ReachesWaiters node waiters (calls.Start number ticket handler local expires answer) = Unit {0}
ReachesWaiters node waiters (calls.Send peer bytes answer) =
    IsBetweenMembers node peer bytes ⊎ TellsWaiter node waiters peer bytes
ReachesWaiters node waiters call = ⊥

-- ---- turns

-- A turn at this moment accepts the datagram of this peer as this message, and these are the calls for its actions.
pub record LetsIn (node : NodeConfig) (old : State) (now : ℕ) (from : Peer) (message : PlainMessage)
    (entries : List Entry) (new : State) : Type 0 where
  pub bytes : List ℕ
  pub let_in : verdict node.config node.ring node.me now bytes ≡ Ok message
  pub deeds : Leads (IsDone node.ring) (react node old now (Ok (arrivals.Datagram from)) bytes) entries
      (Ends new)

-- The calls for the arrival do these actions of the ticket with this index. They leave the ticket with a view and
-- waiting clients that have the property. The calls for the deadlines follow.
pub record ArrivalDoes (node : NodeConfig) (now place : ℕ) (setup : Setup) (acts : List Act)
    (Holds : Left → Type 0) (entries : List Entry) (new : State) : Type 0 where
  pub arrival : List Entry
  pub deadlines : List Entry
  pub whole : entries ≡ arrival ++ deadlines
  pub done : AreCallsOf node now setup.ticket acts arrival
  pub after : State
  pub left : Left
  pub ticket : slice_get after.tickets place ≡ Some (record { setup = setup; known = Automatic left.core.view })
  pub waiters : slice_get after.waiters place ≡ Some left.waiters
  pub holds : Holds left
  pub follow : Leads (IsDone node.ring) (dues node now Went after) deadlines (Ends new)
