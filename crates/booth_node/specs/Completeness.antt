-- Actions that a node does whenever it may: it answers a round, a grant asks all members for their votes, and a
-- majority gains the ticket.
use Rattle.std.specs.Prelude.{◌≡◌, ℕ, false, List, ◌++◌, position, slice_get, Some, None}
use Rattle.booth_base.specs.declared.address.Peer.{Peer}
use Rattle.booth_conf.specs.Config.{has_id}
use Rattle.booth_conf.specs.Lookups.{is_called}
use Rattle.booth_conf.specs.declared.tickets.GrantKind.TheVariants.{Manual}
use Rattle.booth_wire.specs.declared.codes.results.TheConstants.{ASYN}
use Rattle.booth_wire.specs.declared.command.Cmd.TheVariants.{CGnt}
use Rattle.booth_wire.specs.declared.message.Setup.{Setup}
use Rattle.booth_wire.specs.declared.message.TicketPart.{TicketPart}
use Rattle.booth_wire.specs.PlainMessage.{PlainMessage, Ticket}
use Rattle.booth_host.specs.declared.entry.Entry.{Entry}
use Rattle.booth_raft.specs.declared.view.Round.{Round}
use Rattle.booth_raft.specs.declared.view.RoundKind.{RoundKind}
use Rattle.booth_raft.specs.declared.view.View.{View}
use Rattle.booth_raft.specs.AskAndRenew.{own_answer}
use Rattle.booth_raft.specs.Members.{is_majority}
use Rattle.booth_raft.specs.RoundsAndAnswers.{MayAnswer}
use Rattle.booth_ticket.specs.declared.request.Request.{Request}
use Rattle.booth_ticket.specs.declared.request.Wish.TheVariants.{Grant}
use Rattle.booth_ticket.specs.Laws.{AsksVotes, Completes, HasLease, IsAnswer, IsRound, answering_acts, asked_record, asking_acts, gaining_acts, lease_kept, lease_of}
use Rattle.booth_ticket.specs.Requests.{refused_grant}
use Rattle.booth_ticket.specs.Ticket.{Automatic}
use Rattle.booth_ticket.specs.Waiting.{joined, spare_in, waiting_at}
use Rattle.booth_node.specs.declared.node_config.NodeConfig.{NodeConfig}
use Rattle.booth_node.specs.AttributeRequests.{is_ready}
use Rattle.booth_node.specs.Calls.{AreCallsOf, ArrivalDoes, KeepsFirst, LetsIn}
use Rattle.booth_node.specs.Jobs.{handler_at}
use Rattle.booth_node.specs.Opening.{AreSetUp}
use Rattle.booth_node.specs.State.{State}

-- The message is about the automatic ticket at this place, which has this setup and this view.
pub record IsAbout (node : NodeConfig) (state : State) (message : PlainMessage) (place : ℕ)
    (part : TicketPart) (setup : Setup) (view : View) : Type 0 where
  pub content : message.content ≡ Ticket part
  pub named : position (is_called part.ticket) node.config.tickets ≡ Some place
  pub there : slice_get state.tickets place ≡ Some (record { setup = setup; known = Automatic view })

-- The first calls answer the round, to the member that opened it. In version 2 they write the promise and then send
-- the answer.
pub record IsRoundAnswered (node : NodeConfig) (now : ℕ) (setup : Setup) (view : View) (kind : RoundKind)
    (message : PlainMessage) (part : TicketPart) (entries : List Entry) : Type 0 where
  pub member : ℕ
  pub is_member : position (has_id message.head.from) node.config.members ≡ Some member
  pub first : List Entry
  pub others : List Entry
  pub whole : entries ≡ first ++ others
  pub answers : AreCallsOf node now setup.ticket
      (answering_acts setup view member kind message.head part now) first

-- A member may make a promise for a round that it received, and the write of its promise succeeds. Then it sends the
-- answer in the same turn, before all other actions.
abbrev pub RoundsAreAnswered : Type 0
RoundsAreAnswered =
    (node : NodeConfig) (old new : State) (now : ℕ) (from : Peer) (message : PlainMessage)
    (entries : List Entry) (place : ℕ) (part : TicketPart) (setup : Setup) (view : View) (kind : RoundKind)
    → LetsIn node old now from message entries new → IsAbout node old message place part setup view
    → IsRound kind message.head → MayAnswer view message.head.from part.term now → KeepsFirst entries
    → IsRoundAnswered node now setup view kind message part entries

-- The request for a grant in a client's message.
abbrev pub grant_of : Peer → PlainMessage → Request
grant_of from message =
    record { wish = Grant; from = from; number = message.head.request; options = message.head.options }

-- A grant asks every other member for its vote in its turn, and informs the client that it was begun. The conditions
-- are: the ticket has no handler; the grant is not refused, so its prerequisites hold; the write of the new term
-- succeeds; and this member alone is no majority. The client then waits, if it asked for that.
abbrev pub GrantsAskAll : Type 0
GrantsAskAll =
    (node : NodeConfig) (old new : State) (now : ℕ) (from : Peer) (message : PlainMessage)
    (entries : List Entry) (place : ℕ) (part : TicketPart) (setup : Setup) (view : View)
    → AreSetUp node old → LetsIn node old now from message entries new
    → IsAbout node old message place part setup view
    → message.head.cmd ≡ CGnt → handler_at node place ≡ None
    → refused_grant setup view (spare_in old.waiters) (is_ready node old.attributes place Manual)
    message.head.options now ≡ None
    → is_majority setup (own_answer setup view now) ≡ false → KeepsFirst entries
    → ArrivalDoes node now place setup (asking_acts setup view (grant_of from message) now)
    (AsksVotes (asked_record setup view now)
    (joined (grant_of from message) ASYN (waiting_at old.waiters place))) entries new

-- The answer that completes a majority arrives before the lease of its round would end, and the write succeeds. Then
-- the ticket is granted until `expire` after the round was opened. The member informs all other members, and each
-- client that waits for the ticket, in that turn; then no client waits.
abbrev pub MajoritiesGain : Type 0
MajoritiesGain =
    (node : NodeConfig) (old new : State) (now : ℕ) (from : Peer) (message : PlainMessage)
    (entries : List Entry) (place : ℕ) (part : TicketPart) (setup : Setup) (view : View) (round : Round)
    (kind : RoundKind) (member : ℕ)
    → AreSetUp node old → LetsIn node old now from message entries new
    → IsAbout node old message place part setup view
    → position (has_id message.head.from) node.config.members ≡ Some member → view.round ≡ Some round
    → IsAnswer kind message.head → Completes setup round member message.head part now → KeepsFirst entries
    → ArrivalDoes node now place setup
    (gaining_acts setup view (waiting_at old.waiters place) (lease_of setup view round) now)
    (HasLease setup.me (lease_kept setup view (lease_of setup view round)) (lease_of setup view round)) entries new
