-- The replies to clients, and clients' requests about a ticket.
use Rattle.std.specs.Prelude.{ℕ, ◌+◌, ◌++◌, true, false, Bool, List, [], ◌∷◌, map, Option, Some, None, codes, decimal, position, slice_get, if◌then◌else◌}
use Rattle.std.specs.List.{flat_map, zip}
use Rattle.booth_base.specs.declared.address.MemberId.{MemberId}
use Rattle.booth_base.specs.declared.address.Peer.{Peer as Sender}
use Rattle.booth_base.specs.declared.address.TheConstants.{NO_ONE}
use Rattle.booth_base.specs.Address.{printed}
use Rattle.booth_conf.specs.Config.{ConfigSays, has_id}
use Rattle.booth_conf.specs.Lookups.{is_called}
use Rattle.booth_conf.specs.declared.members.Member.{Member}
use Rattle.booth_wire.specs.declared.codes.results.TheConstants.{SUCCESS, MORE, IARG}
use Rattle.booth_wire.specs.declared.command.Cmd.{Cmd}
use Rattle.booth_wire.specs.declared.command.Cmd.TheVariants.{CLst, RLst, CTkt, Peer, CGnt, CRvk, ASet, AGet, ADel, ALst}
use Rattle.booth_wire.specs.Command.{answer_of}
use Rattle.booth_wire.specs.declared.message.AttrPart.{AttrPart}
use Rattle.booth_wire.specs.declared.message.Head.{Head}
use Rattle.booth_wire.specs.declared.message.TicketPart.{TicketPart}
use Rattle.booth_wire.specs.PlainMessage.{PlainMessage, Content, Bare, Ticket, Attr, Text}
use Rattle.booth_ticket.specs.declared.request.Request.{Request}
use Rattle.booth_ticket.specs.declared.request.Wish.{Wish}
use Rattle.booth_ticket.specs.declared.request.Wish.TheVariants.{Grant, Revoke}
use Rattle.booth_ticket.specs.declared.ticket.Owner.{Owner}
use Rattle.booth_ticket.specs.Ticket.{TicketState, owner, told_ticket}
use Rattle.booth_node.specs.declared.node_config.NodeConfig.{NodeConfig}
use Rattle.booth_node.specs.declared.state.Counters.{Counters}
use Rattle.booth_node.specs.declared.state.Common.{Common}
use Rattle.booth_node.specs.Lists.{cut_lines, part_text}

-- TEXTS

-- A number after a blank.
abbrev pub spaced : ℕ → List ℕ
spaced n = codes " " ++ decimal n

-- The member's address and the end of its lease in seconds. If there is no owner, the text states that.
abbrev pub owner_at : Option Member → ℕ → List ℕ
owner_at None until_secs = codes "none 0"
owner_at (Some member) until_secs = printed member.address ++ spaced until_secs

abbrev pub owner_in : List Member → Option ℕ → ℕ → List ℕ
owner_in members None until_secs = codes "none 0"
owner_in members (Some place) until_secs = owner_at (slice_get members place) until_secs

-- The known owner of a ticket, as text.
abbrev pub owner_text : ConfigSays → Option Owner → List ℕ
owner_text config None = codes "none 0"
owner_text config (Some shown) =
    owner_in config.members (position (has_id shown.site) config.members) shown.until_secs

-- The line of a ticket: its name, its owner at this moment, and the end of the owner's lease in seconds.
abbrev pub list_line : ConfigSays → ℕ → TicketState → List ℕ
list_line config now ticket =
    ticket.setup.ticket ++ codes " " ++ owner_text config (owner ticket.setup ticket.known now) ++ codes "\n"

-- The lines of all tickets, in the order of the configuration.
abbrev pub list_lines : NodeConfig → ℕ → List TicketState → List (List ℕ)
list_lines node now tickets = map (list_line node.config now) tickets

-- The line with the number of datagrams that were dropped for each fault, in the gate's order.
abbrev pub drops_line : List ℕ → List ℕ
drops_line drops = codes "dropped" ++ flat_map spaced drops ++ codes "\n"

abbrev pub role_of : Bool → List ℕ
role_of site = if site then codes "site " else codes "arbitrator "

-- The line of a member: when its last datagram was accepted, how many were accepted, and how many sends to it
-- succeeded and failed.
abbrev pub peer_line : Member × Counters → List ℕ
peer_line p =
    role_of p.0.site ++ printed p.0.address
    ++ flat_map spaced (p.1.last ∷ p.1.accepted ∷ p.1.sent ∷ p.1.errors ∷ []) ++ codes "\n"

-- The line of another member. The node's own member has no line.
abbrev pub other_line : NodeConfig → Member × Counters → List ℕ
other_line node p = if has_id node.me p.0 then [] else peer_line p

-- The text with the drops, and a line for each other member, in the order of the configuration.
abbrev pub peers_text : NodeConfig → Common → List ℕ
peers_text node common =
    drops_line common.drops ++ flat_map (other_line node) (zip node.config.members common.members)

-- The text of the reply to a command, empty if it has none.
abbrev pub text_for : NodeConfig → Common → Cmd → List ℕ
text_for node common Peer = peers_text node common
text_for node common cmd = []

-- REPLIES

pub record Reply : Type 0 where
  pub result : ℕ
  pub content : Content

-- The reply for an unknown ticket.
abbrev pub no_ticket : Content → Option Reply
no_ticket (Ticket part) =
    Some (record {
      result = IARG;
      content = Ticket (record { ticket = part.ticket; leader = NO_ONE; term = 0; valid_for = 0 });
    })
no_ticket Bare = None
no_ticket (Attr part) = None
no_ticket (Text text) = None

-- ---- the state of a ticket

abbrev pub ticket_in : List TicketState → Option ℕ → Option TicketState
ticket_in tickets None = None
ticket_in tickets (Some place) = slice_get tickets place

-- The ticket with this name, if the configuration has it.
abbrev pub ticket_named : NodeConfig → List TicketState → List ℕ → Option TicketState
ticket_named node tickets name = ticket_in tickets (position (is_called name) node.config.tickets)

-- The reply with the state of the ticket that a request names. For an unknown ticket, it has only the ticket's name.
abbrev pub told_of : Option TicketState → ℕ → TicketPart → Option Reply
told_of (Some ticket) now asked =
    Some (record { result = SUCCESS; content = Ticket (told_ticket ticket.setup ticket.known now) })
told_of None now asked = no_ticket (Ticket asked)

-- The reply to a request for one ticket.
abbrev pub told_for : NodeConfig → ℕ → List TicketState → Content → Option Reply
told_for node now tickets (Ticket asked) = told_of (ticket_named node tickets asked.ticket) now asked
told_for node now tickets Bare = None
told_for node now tickets (Attr part) = None
told_for node now tickets (Text text) = None

-- ---- attributes

-- The reply for an unknown attribute, which repeats the attribute that the request names.
abbrev pub no_attribute_of : AttrPart → Option (List ℕ) → Option Reply
no_attribute_of part (Some name) = Some (record { result = IARG; content = Attr part })
no_attribute_of part None = None

abbrev pub no_attribute : Content → Option Reply
no_attribute (Attr part) = no_attribute_of part part.name
no_attribute Bare = None
no_attribute (Ticket part) = None
no_attribute (Text text) = None

-- The reply to a client's command with this content, if this text and this part about a ticket were made for it.
-- Other commands have no reply here, and neither has a list, which is answered in parts.
abbrev pub reply_with : List ℕ → Option Reply → Cmd → Content → Option Reply
reply_with text told CTkt content = told
reply_with text told Peer content = Some (record { result = SUCCESS; content = Text text })
reply_with text told CGnt content = no_ticket content
reply_with text told CRvk content = no_ticket content
reply_with text told ASet content = no_attribute content
reply_with text told AGet content = no_attribute content
reply_with text told ADel content = no_attribute content
reply_with text told ALst content = Some (record { result = IARG; content = Text text })
reply_with text told cmd content = None

abbrev pub reply_message : MemberId → ℕ → Cmd → Reply → PlainMessage
reply_message me request cmd reply = record {
  head = record {
    auth = false;
    secs = 0;
    usecs = 0;
    from = me;
    cmd = cmd;
    request = request;
    options = 0;
    reason = 0;
    result = reply.result;
  };
  content = reply.content;
}

-- The message of a reply, if the command has an answer and there is a reply.
abbrev pub answered : MemberId → ℕ → Option Cmd → Option Reply → List PlainMessage
answered me request (Some cmd) (Some reply) = reply_message me request cmd reply ∷ []
answered me request (Some cmd) None = []
answered me request None reply = []

-- The message with this text of a part of a list, as the reply with this number.
abbrev pub part_message : MemberId → ℕ → ℕ → ℕ → List ℕ → PlainMessage
part_message me request number result text =
    let whole : PlainMessage = reply_message me request RLst (record { result = result; content = Text text }) in
    record whole { head = record whole.head { options = number } }

-- The parts of a list as messages, numbered from this number on. Each part except the last states that more follow.
abbrev pub part_messages : MemberId → ℕ → ℕ → List (List (List ℕ)) → List PlainMessage
part_messages me request number [] = []
part_messages me request number (part ∷ []) = part_message me request number SUCCESS (part_text part) ∷ []
part_messages me request number (part ∷ next ∷ parts) =
    part_message me request number MORE (part_text part) ∷ part_messages me request (number + 1) (next ∷ parts)

abbrev pub is_list : Cmd → Bool
is_list CLst = true
is_list cmd = false

-- The immediate answer to a client's message, at this moment, as messages in this order: a list in parts, anything
-- else in at most one message.
abbrev pub replies_to : NodeConfig → ℕ → List TicketState → Common → PlainMessage → List PlainMessage
replies_to node now tickets common message =
    if is_list message.head.cmd
    then part_messages node.me message.head.request 0 (cut_lines 0 (list_lines node now tickets))
    else answered node.me message.head.request (answer_of message.head.cmd)
    (reply_with (text_for node common message.head.cmd) (told_for node now tickets message.content)
    message.head.cmd message.content)

-- ---- requests about a ticket

abbrev pub wish_of : Cmd → Option Wish
wish_of CGnt = Some Grant
wish_of CRvk = Some Revoke
wish_of cmd = None

abbrev pub request_of : Sender → Head → Option Wish → Content → Option (TicketPart × Request)
request_of from head (Some wish) (Ticket part) =
    Some (part, record { wish = wish; from = from; number = head.request; options = head.options })
request_of from head wish content = None

-- The request about a ticket in a client's message, if it has one.
abbrev pub request_in : Sender → PlainMessage → Option (TicketPart × Request)
request_in from message = request_of from message.head (wish_of message.head.cmd) message.content
