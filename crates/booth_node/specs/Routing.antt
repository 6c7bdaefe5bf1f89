-- The properties of the code's routing of messages.
use Rattle.std.specs.Prelude.{◌≡◌, ◌<◌, ℕ, List, length, position, Option, Some}
use Rattle.booth_base.specs.declared.address.Peer.{Peer}
use Rattle.booth_base.specs.declared.address.MemberId.{MemberId}
use Rattle.booth_conf.specs.Config.{has_id}
use Rattle.booth_wire.specs.Command.{direction_of}
use Rattle.booth_wire.specs.PlainMessage.{PlainMessage}
use Rattle.booth_ticket.specs.declared.request.Request.{Request}
use Rattle.booth_wire.specs.declared.message.TicketPart.{TicketPart}
use Rattle.booth_ticket.specs.Ticket.{TicketState}
use Rattle.booth_node.specs.declared.node_config.NodeConfig.{NodeConfig}
use Rattle.booth_node.specs.declared.state.Common.{Common}
use Rattle.booth_node.specs.declared.routing.Action.{Action as Made}
use Rattle.booth_node.specs.declared.routing.Action.TheVariants as made
use Rattle.booth_node.specs.AttributeRequests.{attr_request_in}
use Rattle.booth_node.specs.Replies.{replies_to}
use Rattle.booth_node.specs.Reaction.{Action, Hears, Asks, Attends as AttendsTo, Rests, answers, attended, requested, routed}

-- The action that the code names, if a request that is answered at once has this action.
abbrev pub named : Action → Made → Action
named answer (made.Hear from ticket head part) = Hears from ticket head part
named answer (made.Ask ticket request) = Asks ticket request
named answer (made.Attend ticket request) = AttendsTo ticket request
named answer made.Answer = answer
named answer made.Rest = Rests

-- The code names this action, whatever the immediate answer is.
abbrev pub Names : Made → Action → Type 0
Names made_action action = (answer : Action) → named answer made_action ≡ action

-- The code names the action for a request that is not about a ticket itself.
abbrev pub Attends : NodeConfig → PlainMessage → Made → Type 0
Attends node message made_action =
    (answer : Action) → named answer made_action ≡ attended node (attr_request_in message) answer

-- The action for this message, if it is answered at once.
abbrev pub at_once : NodeConfig → ℕ → List TicketState → Common → PlainMessage → Action
at_once node now tickets common message = answers node.ring now (replies_to node now tickets common message)

-- The code names the action for a request with this content, in every state of the node.
abbrev pub Requests : NodeConfig → PlainMessage → Option (TicketPart × Request) → Made → Type 0
Requests node message found made_action =
    (now : ℕ) (tickets : List TicketState) (common : Common)
    → named (at_once node now tickets common message) made_action ≡ requested node now tickets common message found

-- The code names the action for a message of this peer, in every state of the node.
abbrev pub Routes : NodeConfig → Peer → PlainMessage → Made → Type 0
Routes node from message made_action =
    (now : ℕ) (tickets : List TicketState) (common : Common)
    → named (at_once node now tickets common message) made_action
    ≡ routed node now tickets common from message (direction_of message.head.cmd)

-- The places in the code's action are places of the configuration: the place of the sender, and the place of a
-- ticket.
abbrev pub IsPlaced : NodeConfig → MemberId → Made → Type 0
IsPlaced node sender (made.Hear from ticket head part) =
    (position (has_id sender) node.config.members ≡ Some from) × (ticket < length node.config.tickets)
IsPlaced node sender (made.Ask ticket request) = ticket < length node.config.tickets
IsPlaced node sender (made.Attend ticket request) = ticket < length node.config.tickets
IsPlaced node sender made.Answer = Unit {0}
IsPlaced node sender made.Rest = Unit {0}
