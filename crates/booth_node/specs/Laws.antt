-- The laws of turns, for every state and all bytes.
use Rattle.std.specs.Prelude.{◌≡◌, ◌⊎◌, ◌<◌, ◌+◌, ℕ, List, [], ◌∷◌, ◌++◌, length, position, Option, Some, None, Result, Ok, Err}
use Rattle.std.specs.List.{All}
use Rattle.booth_keys.specs.declared.ring.Ring.{Ring}
use Rattle.booth_base.specs.declared.address.Peer.{Peer}
use Rattle.booth_base.specs.Tree.{Ends, Leads}
use Rattle.booth_conf.specs.Config.{has_id}
use Rattle.booth_conf.specs.Lookups.{is_called}
use Rattle.booth_rec.specs.declared.record.Record.{Record}
use Rattle.booth_wire.specs.declared.command.Direction.{Direction}
use Rattle.booth_wire.specs.declared.command.Direction.TheVariants.{ToDaemon, ToClient, BetweenMembers}
use Rattle.booth_wire.specs.declared.codes.results.TheConstants.{MORE}
use Rattle.booth_wire.specs.declared.command.Cmd.TheVariants.{CLst}
use Rattle.booth_wire.specs.Command.{direction_of, answer_of}
use Rattle.booth_wire.specs.PlainMessage.{PlainMessage}
use Rattle.booth_auth.specs.declared.admission.DropFault.{DropFault}
use Rattle.booth_auth.specs.Sealed.{sealed}
use Rattle.booth_auth.specs.Verdict.{verdict}
use Rattle.booth_host.specs.declared.host.Arrival.{Arrival}
use Rattle.booth_host.specs.declared.host.Arrival.TheVariants as arrivals
use Rattle.booth_host.specs.declared.host.Failed.{Failed}
use Rattle.booth_host.specs.declared.entry.Entry.{Entry}
use Rattle.booth_host.specs.declared.entry.Entry.TheVariants as calls
use Rattle.booth_ticket.specs.declared.waiters.Waiter.{Waiter}
use Rattle.booth_ticket.specs.Waiting.{waiting_at}
use Rattle.booth_node.specs.declared.node.Turn.TheVariants.{Went}
use Rattle.booth_node.specs.declared.node_config.NodeConfig.{NodeConfig}
use Rattle.booth_node.specs.declared.state.Common.{Common}
use Rattle.booth_node.specs.Calls.{IsAmong, IsToldIn, LetsIn, ReachesWaiters}
use Rattle.booth_node.specs.Counting.{dropped, count_drop}
use Rattle.booth_node.specs.Opening.{AreSetUp, opened}
use Rattle.booth_node.specs.Reaction.{Action, Drops, Hears, Asks, Attends, Answers, Rests, IsDone, action, dues, react}
use Rattle.booth_node.specs.State.{State}

-- ---- the tickets of a node

-- A node opens with the tickets of its configuration, each set up for this node.
abbrev pub OpensWithItsTickets : Type 0
OpensWithItsTickets =
    (node : NodeConfig) (records : List (Option Record)) (reading : ℕ)
    → length records ≡ length node.config.tickets
    → AreSetUp node (opened node records reading)

-- The tickets of a node stay the same through every turn.
abbrev pub KeepsItsTickets : Type 0
KeepsItsTickets =
    (node : NodeConfig) (old new : State) (now : ℕ) (arrival : Result Arrival Failed) (bytes : List ℕ)
    (entries : List Entry) → AreSetUp node old
    → Leads (IsDone node.ring) (react node old now arrival bytes) entries (Ends new) → AreSetUp node new

-- ---- the action for a datagram

-- The action fits its message. A member's message goes to the ticket that it names, as a message of the member in its
-- head. A client's request about a ticket goes to that ticket.
abbrev pub IsSettled : NodeConfig → Action → Type 0
IsSettled node (Drops fault) = Unit {0}
IsSettled node (Hears from ticket head part) =
    (position (has_id head.from) node.config.members ≡ Some from)
    × (position (is_called part.ticket) node.config.tickets ≡ Some ticket)
IsSettled node (Asks ticket request) = ticket < length node.config.tickets
IsSettled node (Attends ticket request) = ticket < length node.config.tickets
IsSettled node (Answers messages) = Unit {0}
IsSettled node Rests = ⊥

-- Every datagram has an action: it is dropped, goes to its ticket, is a request about its ticket or that ticket's
-- attributes, or is answered at once.
abbrev pub NothingRests : Type 0
NothingRests =
    (node : NodeConfig) (now : ℕ) (state : State) (from : Peer) (bytes : List ℕ)
    → IsSettled node (action node now state.tickets state.common from bytes)

-- ---- dropped for its named fault

-- The only effect of a datagram with a fault is that its fault is counted: all actions in its turn come from
-- deadlines.
abbrev pub DropsAlone : Type 0
DropsAlone =
    (node : NodeConfig) (old new : State) (now : ℕ) (from : Peer) (bytes : List ℕ) (fault : DropFault)
    (entries : List Entry) → verdict node.config node.ring node.me now bytes ≡ Err fault
    → Leads (IsDone node.ring) (react node old now (Ok (arrivals.Datagram from)) bytes) entries (Ends new)
    → Leads (IsDone node.ring) (dues node now Went (dropped (record old { last_reading = now }) fault))
    entries (Ends new)

-- The drop counters after a verdict, and after an arrival.
abbrev pub drops_by : Common → Result PlainMessage DropFault → List ℕ
drops_by common (Err fault) = (count_drop common fault).drops
drops_by common (Ok message) = common.drops

abbrev pub drops_after : NodeConfig → ℕ → Common → Result Arrival Failed → List ℕ → List ℕ
drops_after node now common (Ok (arrivals.Datagram from)) bytes =
    drops_by common (verdict node.config node.ring node.me now bytes)
drops_after node now common answer bytes = common.drops

-- A turn counts a fault exactly if its datagram has that fault, and it counts no other fault.
abbrev pub CountsEachFault : Type 0
CountsEachFault =
    (node : NodeConfig) (old new : State) (now : ℕ) (arrival : Result Arrival Failed) (bytes : List ℕ)
    (entries : List Entry) → Leads (IsDone node.ring) (react node old now arrival bytes) entries (Ends new)
    → new.common.drops ≡ drops_after node now old.common arrival bytes

-- ---- clients

-- This reply answers the message. It has the command that answers the message's command, the message's request
-- number, this part number and no reason, and it comes from this member.
pub record IsReplyTo (node : NodeConfig) (message : PlainMessage) (number : ℕ) (reply : PlainMessage) : Type 0 where
  pub cmd : answer_of message.head.cmd ≡ Some reply.head.cmd
  pub request : reply.head.request ≡ message.head.request
  pub options : reply.head.options ≡ number
  pub reason : reply.head.reason ≡ 0
  pub from : reply.head.from ≡ node.me

-- These replies answer the message: one reply, or the parts of a list, numbered from this number on. Each part except
-- the last states that more follow.
abbrev pub AreRepliesTo : NodeConfig → PlainMessage → ℕ → List PlainMessage → Type 0
AreRepliesTo node message number [] = ⊥
AreRepliesTo node message number (reply ∷ []) = IsReplyTo node message number reply
AreRepliesTo node message number (reply ∷ next ∷ replies) =
    IsReplyTo node message number reply × (message.head.cmd ≡ CLst) × (reply.head.result ≡ MORE)
    × AreRepliesTo node message (number + 1) (next ∷ replies)

-- These calls send these messages to this peer, in their order.
abbrev pub AreSends : Option Ring → Peer → List PlainMessage → List Entry → Type 0
AreSends ring to [] [] = Unit {0}
AreSends ring to (message ∷ messages) (calls.Send peer bytes answer ∷ entries) =
    (peer ≡ to) × (bytes ≡ sealed ring message) × AreSends ring to messages entries
AreSends ring to messages entries = ⊥

-- The last calls for the arrival are the replies, to the sender of the request. Each other call of the turn that
-- reaches a client is the outcome of a grant for a client that waits. Before the replies, this is a client that
-- waited when the turn began. After them, it is a client that waits after the replies.
pub record IsAnswered (node : NodeConfig) (old : State) (now : ℕ) (from : Peer) (message : PlainMessage)
    (entries : List Entry) (new : State) : Type 0 where
  pub before : List Entry
  pub replies : List PlainMessage
  pub sent : List Entry
  pub deadlines : List Entry
  pub whole : entries ≡ before ++ sent ++ deadlines
  pub answers : AreRepliesTo node message 0 replies
  pub sends : AreSends node.ring from replies sent
  pub waited : All (ReachesWaiters node old.waiters) before
  pub after : State
  pub waiting : All (ReachesWaiters node after.waiters) deadlines
  pub follow : Leads (IsDone node.ring) (dues node now Went after) deadlines (Ends new)

-- Each accepted request of a client gets its one reply in the same turn, and a request for a list gets its parts.
abbrev pub ClientsAreAnswered : Type 0
ClientsAreAnswered =
    (node : NodeConfig) (old new : State) (now : ℕ) (from : Peer) (message : PlainMessage)
    (entries : List Entry)
    → AreSetUp node old → LetsIn node old now from message entries new
    → direction_of message.head.cmd ≡ ToDaemon
    → IsAnswered node old now from message entries new

-- The request of a client in a datagram, if the datagram has one that is accepted.
abbrev pub asked_by : Direction → PlainMessage → Option PlainMessage
asked_by ToDaemon message = Some message
asked_by BetweenMembers message = None
asked_by ToClient message = None

abbrev pub request_let_in : Result PlainMessage DropFault → Option PlainMessage
request_let_in (Err fault) = None
request_let_in (Ok message) = asked_by (direction_of message.head.cmd) message

abbrev pub request_of : NodeConfig → ℕ → Result Arrival Failed → List ℕ → Option PlainMessage
request_of node now (Ok (arrivals.Datagram from)) bytes =
    request_let_in (verdict node.config node.ring node.me now bytes)
request_of node now answer bytes = None

-- In every other turn a client receives only the outcome of a grant, and only if it waited when the turn began.
abbrev pub OthersAreNotAnswered : Type 0
OthersAreNotAnswered =
    (node : NodeConfig) (old new : State) (now : ℕ) (arrival : Result Arrival Failed) (bytes : List ℕ)
    (entries : List Entry) → AreSetUp node old
    → Leads (IsDone node.ring) (react node old now arrival bytes) entries (Ends new)
    → request_of node now arrival bytes ≡ None → All (ReachesWaiters node old.waiters) entries

-- No waiting client is forgotten: after each turn it still waits for the same ticket, or it was sent the outcome of
-- its grant of that ticket in the turn.
abbrev pub NobodyIsForgotten : Type 0
NobodyIsForgotten =
    (node : NodeConfig) (old new : State) (now : ℕ) (arrival : Result Arrival Failed) (bytes : List ℕ)
    (entries : List Entry) → AreSetUp node old
    → Leads (IsDone node.ring) (react node old now arrival bytes) entries (Ends new)
    → (place : ℕ) (waiter : Waiter) → IsAmong waiter (waiting_at old.waiters place)
    → IsAmong waiter (waiting_at new.waiters place) ⊎ IsToldIn node place waiter entries
