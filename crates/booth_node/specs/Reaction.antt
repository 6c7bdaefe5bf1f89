-- The actions of a node in one turn, for an arrival and for its deadlines, as a tree.
use Rattle.std.specs.Prelude.{◌≡◌, ◌-◌, ◌^◌, ℕ, min, max, Bool, true, List, ◌∷◌, length, map, position, slice_get, Option, Some, None, Result, Ok, Err, is_ok, []}
use Rattle.std.specs.List.{range_with_len}
use Rattle.booth_keys.specs.declared.ring.Ring.{Ring}
use Rattle.booth_base.specs.declared.address.Peer.{Peer}
use Rattle.booth_base.specs.Tree.{Deeds, Ends, Does, Leads, ◌>>=◌, ◌>>◌, each, through}
use Rattle.booth_conf.specs.Config.{ConfigSays, has_id}
use Rattle.booth_conf.specs.Lookups.{is_called}
use Rattle.booth_conf.specs.declared.members.Member.{Member}
use Rattle.booth_conf.specs.declared.tickets.GrantKind.{GrantKind}
use Rattle.booth_conf.specs.declared.tickets.GrantKind.TheVariants as kinds
use Rattle.booth_rec.specs.declared.record.Record.{Record}
use Rattle.booth_wire.specs.declared.command.Direction.{Direction}
use Rattle.booth_wire.specs.declared.command.Direction.TheVariants.{ToDaemon, ToClient, BetweenMembers}
use Rattle.booth_wire.specs.declared.message.Head.{Head}
use Rattle.booth_wire.specs.declared.message.TicketPart.{TicketPart}
use Rattle.booth_wire.specs.Command.{direction_of}
use Rattle.booth_wire.specs.PlainMessage.{PlainMessage, Content, Ticket}
use Rattle.booth_wire.specs.Spelling.{Fits}
use Rattle.booth_auth.specs.declared.admission.DropFault.{DropFault}
use Rattle.booth_auth.specs.Verdict.{verdict}
use Rattle.booth_auth.specs.Sealed.{stamped, sealed}
use Rattle.booth_host.specs.declared.host.Failed.{Failed}
use Rattle.booth_host.specs.declared.host.Job.{Job}
use Rattle.booth_host.specs.declared.host.Arrival.{Arrival}
use Rattle.booth_host.specs.declared.host.Arrival.TheVariants as arrivals
use Rattle.booth_host.specs.declared.entry.Entry.{Entry}
use Rattle.booth_host.specs.declared.entry.Entry.TheVariants as calls
use Rattle.booth_chain.specs.DueList.{due_list}
use Rattle.booth_ticket.specs.declared.hands.To.{To}
use Rattle.booth_ticket.specs.declared.hands.To.TheVariants as whom
use Rattle.booth_ticket.specs.declared.request.Request.{Request}
use Rattle.booth_ticket.specs.declared.waiters.Waiter.{Waiter}
use Rattle.booth_ticket.specs.declared.handling.Service.{Service}
use Rattle.booth_ticket.specs.Handling.{service_of}
use Rattle.booth_ticket.specs.Acts.{Ask as TicketAsk, Keep as KeepsRecord, Start as StartsJob, Say}
use Rattle.booth_ticket.specs.Ticket.{TicketState, TicketLeft, deadline, ticket_asked, ticket_due, ticket_heard, ticket_over}
use Rattle.booth_ticket.specs.Waiting.{spare_in, waiting_at}
use Rattle.booth_node.specs.declared.attributes.AttrRequest.{AttrRequest}
use Rattle.booth_node.specs.declared.event.Event.{Event}
use Rattle.booth_node.specs.declared.event.Event.TheVariants.{Due, Heard, Asked, Over}
use Rattle.booth_node.specs.declared.node.Turn.{Turn}
use Rattle.booth_node.specs.declared.node.Turn.TheVariants.{Went, Stopped}
use Rattle.booth_node.specs.declared.node_config.NodeConfig.{NodeConfig}
use Rattle.booth_node.specs.declared.state.Common.{Common}
use Rattle.booth_node.specs.Counting.{dropped, accepted, count_send}
use Rattle.booth_node.specs.Jobs.{job_at, job_of, count_start}
use Rattle.booth_node.specs.Replies.{replies_to, request_in}
use Rattle.booth_node.specs.AttributeRequests.{after_wish, attended_place, attr_message, attr_request_in, is_ready}
use Rattle.booth_node.specs.State.{State, with_ticket}

-- ---- requests to the host

-- A request to the host: to send a message with its time, to write a record under its ticket's name, or to start a
-- job of a ticket's handler.
pub data Ask : Type 0 where
  Send : Peer → PlainMessage → Ask
  Keep : List ℕ → Record → Ask
  Start : Job → Ask

-- This entry is the request, with this answer. The bytes of a send are the message, sealed with the ring if there is
-- one.
abbrev pub IsDone : Option Ring → Ask → Bool → Entry → Type 0
IsDone ring (Send peer message) ok (calls.Send to bytes answer) =
    (to ≡ peer) × (bytes ≡ sealed ring message) × Fits message × (ok ≡ is_ok answer)
IsDone ring (Keep name tried) ok (calls.Keep ticket rec answer) =
    (ticket ≡ name) × (rec ≡ tried) × (ok ≡ is_ok answer)
IsDone ring (Start job) ok (calls.Start number ticket handler local expires answer) =
    (record { number = number; ticket = ticket; handler = handler; local = local; expires = expires } ≡ job)
    × (ok ≡ is_ok answer)
IsDone ring ask ok entry = ⊥

-- ---- one ticket's actions, among the others

-- The address at which a member listens.
abbrev pub peer_at : ConfigSays → Option Member → Option Peer
peer_at config None = None
peer_at config (Some member) = Some (record { address = member.address; port = config.port })

-- The receiver of a message.
abbrev pub peer_of : ConfigSays → To → Option Peer
peer_of config (whom.Member place) = peer_at config (slice_get config.members place)
peer_of config (whom.Client peer) = Some peer

-- A message of a ticket, as it is sent at this moment.
abbrev pub sent_as : NodeConfig → ℕ → Head → TicketPart → PlainMessage
sent_as node now head part = stamped node.ring now (record { head = head; content = Ticket part })

-- The result of a ticket's request at the node: the answer with which the ticket continues, and the counters.
pub record Answered : Type 0 where
  pub ok : Bool
  pub common : Common

-- A send to a peer, if there is one. Its success is counted, but not passed on to the ticket.
abbrev pub sends : Option Peer → PlainMessage → Common → To → Deeds Ask Answered
sends None message common to = Ends (record { ok = true; common = common })
sends (Some peer) message common to =
    Does (Send peer message) (λ ok. Ends (record { ok = true; common = count_send common to ok }))

-- A request of the ticket with this name, as the node's request. Each start uses up a number.
abbrev pub one_of : NodeConfig → ℕ → List ℕ → Common → TicketAsk → Deeds Ask Answered
one_of node now name common (KeepsRecord tried) =
    Does (Keep name tried) (λ ok. Ends (record { ok = ok; common = common }))
one_of node now name common (StartsJob number expires) =
    Does (Start (job_of node name number expires)) (λ ok. Ends (record { ok = ok; common = count_start common }))
one_of node now name common (Say to head part) =
    sends (peer_of node.config to) (sent_as node now head part) common to

-- The result of a ticket's actions at the node.
pub record Lifted (S : Type 0) : Type 0 where
  pub common : Common
  pub left : S

-- The actions of a ticket as the node's actions, with each request translated by `one_of`.
abbrev pub lifted : {S : Type 0} → NodeConfig → ℕ → List ℕ → Common → Deeds TicketAsk S → Deeds Ask (Lifted S)
lifted node now name common (Ends left) = Ends (record { common = common; left = left })
lifted node now name common (Does ask goes_on) =
    one_of node now name common ask >>= (λ done. lifted node now name done.common (goes_on done.ok))

-- The actions for an event of a ticket at this moment, with the clients that wait for the ticket, and the number of
-- further clients that may wait for any ticket. The arguments also state whether the prerequisites of each kind hold,
-- and the job number under which the ticket may start its handler, if it has one. At a deadline the prerequisites of
-- an automatic grant count, and at a client's request those of a manual grant.
abbrev pub befalls : TicketState → List Waiter → ℕ → (GrantKind → Bool) → Option ℕ → Event → ℕ
    → Deeds TicketAsk TicketLeft
befalls ticket waiters spare ready job Due now =
    ticket_due ticket.setup ticket.known waiters (record { now = now; ready = ready kinds.Auto; job = job })
befalls ticket waiters spare ready job (Heard from head part) now =
    ticket_heard ticket.setup ticket.known waiters from head part now
befalls ticket waiters spare ready job (Asked request) now =
    ticket_asked ticket.setup ticket.known waiters spare
    (record { now = now; ready = ready kinds.Manual; job = job }) request
befalls ticket waiters spare ready job (Over number service) now =
    ticket_over ticket.setup ticket.known waiters number service now

abbrev pub acts_as : NodeConfig → ℕ → State → ℕ → Event → Option TicketState → Deeds Ask State
acts_as node now state place event None = Ends state
acts_as node now state place event (Some ticket) =
    lifted node now ticket.setup.ticket state.common
    (befalls ticket (waiting_at state.waiters place) (spare_in state.waiters)
    (is_ready node state.attributes place) (job_at node place state.common) event now)
    >>= (λ done. Ends (with_ticket state place done.common done.left))

-- The actions of the ticket with this index.
abbrev pub acts : NodeConfig → ℕ → State → ℕ → Event → Deeds Ask State
acts node now state place event = acts_as node now state place event (slice_get state.tickets place)

-- ---- the arrival

-- The action for a datagram.
pub data Action : Type 0 where
  -- The datagram is dropped for this fault.
  Drops : DropFault → Action
  -- The member with this index sends a message about the ticket with that index.
  Hears : (from ticket : ℕ) → Head → TicketPart → Action
  -- A client sends a request about the ticket with this index.
  Asks : (ticket : ℕ) → Request → Action
  -- A client sends a request about the attributes of the ticket with this index.
  Attends : (ticket : ℕ) → AttrRequest → Action
  -- A client's request is answered with these messages, in this order.
  Answers : List PlainMessage → Action
  -- There is no action.
  Rests : Action

-- The action that sends these messages, with their time and sealed.
abbrev pub answers : Option Ring → ℕ → List PlainMessage → Action
answers ring now [] = Rests
answers ring now (message ∷ messages) = Answers (map (stamped ring now) (message ∷ messages))

abbrev pub asks : Option ℕ → Request → Action → Action
asks None request other = other
asks (Some ticket) request other = Asks ticket request

abbrev pub attends : Option ℕ → AttrRequest → Action → Action
attends None request other = other
attends (Some ticket) request other = Attends ticket request

-- The action for a request about attributes, which goes to the attributes of its ticket, at a site.
abbrev pub attended : NodeConfig → Option AttrRequest → Action → Action
attended node None other = other
attended node (Some request) other = attends (attended_place node request.ticket) request other

-- The action for a request. A request about a ticket of the configuration goes to the ticket or to its attributes,
-- and every other request is answered at once.
abbrev pub requested : NodeConfig → ℕ → List TicketState → Common → PlainMessage
    → Option (TicketPart × Request) → Action
requested node now tickets common message None =
    attended node (attr_request_in message)
    (answers node.ring now (replies_to node now tickets common message))
requested node now tickets common message (Some found) =
    asks (position (is_called found.0.ticket) node.config.tickets) found.1
    (answers node.ring now (replies_to node now tickets common message))

abbrev pub hears : Option ℕ → Option ℕ → Head → TicketPart → Action
hears (Some from) (Some ticket) head part = Hears from ticket head part
hears from ticket head part = Rests

-- The action for a member's message, which goes to the ticket that it is about.
abbrev pub said : NodeConfig → Head → Content → Action
said node head (Ticket part) =
    hears (position (has_id head.from) node.config.members)
    (position (is_called part.ticket) node.config.tickets) head part
said node head content = Rests

-- The action for an accepted message, by its kind.
abbrev pub routed : NodeConfig → ℕ → List TicketState → Common → Peer → PlainMessage → Direction → Action
routed node now tickets common from message ToDaemon =
    requested node now tickets common message (request_in from message)
routed node now tickets common from message BetweenMembers = said node message.head message.content
routed node now tickets common from message ToClient = Rests

abbrev pub demanded : NodeConfig → ℕ → List TicketState → Common → Peer → Result PlainMessage DropFault
    → Action
demanded node now tickets common from (Err fault) = Drops fault
demanded node now tickets common from (Ok message) =
    routed node now tickets common from message (direction_of message.head.cmd)

-- The action for these bytes, by the gate's verdict.
abbrev pub action : NodeConfig → ℕ → List TicketState → Common → Peer → List ℕ → Action
action node now tickets common from bytes =
    demanded node now tickets common from (verdict node.config node.ring node.me now bytes)

-- The state after a client's request about the attributes of the ticket with this index.
abbrev pub after_attending : State → ℕ → AttrRequest → State
after_attending state ticket request =
    record state { attributes = after_wish state.attributes ticket request.wish }

-- A send of a message back to the sender of the request.
abbrev pub sends_back : Peer → PlainMessage → Deeds Ask (Unit {0})
sends_back from message = Does (Send from message) (λ ok. Ends tt)

-- The calls for an action. A dropped datagram changes one counter. A member's message is counted for the member, and
-- then goes to its ticket. A request about attributes is done and answered.
abbrev pub met : NodeConfig → ℕ → State → Peer → Action → Deeds Ask State
met node now state from (Drops fault) = Ends (dropped state fault)
met node now state from (Hears member ticket head part) =
    acts node now (accepted state member now) ticket (Heard member head part)
met node now state from (Asks ticket request) = acts node now state ticket (Asked request)
met node now state from (Attends ticket request) =
    Does (Send from (attr_message node now state.attributes ticket request))
    (λ ok. Ends (after_attending state ticket request))
met node now state from (Answers messages) = each (sends_back from) messages >> Ends state
met node now state from Rests = Ends state

-- The actions that inform the tickets at these places about the end of a job, one ticket after the other.
abbrev pub each_over : NodeConfig → ℕ → ℕ → Service → List ℕ → State → Deeds Ask State
each_over node now job service places = through (λ place state. acts node now state place (Over job service)) places

-- The places of all tickets, in the order of the configuration.
abbrev pub all_places : State → List ℕ
all_places state = range_with_len 0 (length state.tickets)

-- The actions for an arrival. A failed `next` counts as Quiet.
abbrev pub arrived : NodeConfig → ℕ → State → Result Arrival Failed → List ℕ → Deeds Ask State
arrived node now state (Ok (arrivals.Datagram from)) bytes =
    met node now state from (action node now state.tickets state.common from bytes)
arrived node now state (Ok (arrivals.Handler job status)) bytes =
    each_over node now job (service_of status) (all_places state) state
arrived node now state answer bytes = Ends state

abbrev pub turn_end : Result Arrival Failed → Turn
turn_end (Ok arrivals.Stop) = Stopped
turn_end answer = Went

-- ---- the deadlines

-- The next deadline of a ticket.
abbrev pub deadline_of : TicketState → Option ℕ
deadline_of ticket = deadline ticket.known

-- The places of the tickets whose deadline has passed, by deadline and then place.
abbrev pub due_places : ℕ → List TicketState → List ℕ
due_places now tickets = map (λ entry. entry.1) (due_list now (map deadline_of tickets))

-- The actions for the deadlines of these tickets, one ticket after the other.
abbrev pub each_due : NodeConfig → ℕ → List ℕ → State → Deeds Ask State
each_due node now places = through (λ place state. acts node now state place Due) places

-- The actions for each ticket whose deadline has passed, once each, in its state after the arrival. There are none
-- after Stop.
abbrev pub dues : NodeConfig → ℕ → Turn → State → Deeds Ask State
dues node now Went state = each_due node now (due_places now state.tickets) state
dues node now Stopped state = Ends state

-- ---- the turn

-- The clock reading that a turn uses. It is never before the last one, and below 2 ^ 62.
abbrev pub used : ℕ → ℕ → ℕ
used last reading = max last (min reading (2 ^ 62 - 1))

-- All actions of a turn at this moment: first for the arrival, and then for the deadlines.
abbrev pub react : NodeConfig → State → ℕ → Result Arrival Failed → List ℕ → Deeds Ask State
react node state now arrival bytes =
    arrived node now (record state { last_reading = now }) arrival bytes >>= dues node now (turn_end arrival)

-- The calls of a turn: one `next` with a wait of 100 ms, one `now`, and then exactly the actions for their answers.
abbrev pub IsTurn : NodeConfig → State → Turn → List Entry → State → Type 0
IsTurn node old turn (calls.Next wait answer bytes ∷ calls.Now reading ∷ entries) new =
    (wait ≡ 100) × (turn ≡ turn_end answer)
    × Leads (IsDone node.ring) (react node old (used old.last_reading reading) answer bytes) entries (Ends new)
IsTurn node old turn entries new = ⊥
