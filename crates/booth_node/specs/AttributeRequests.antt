-- Clients' requests about the attributes of a ticket, the replies to them, and whether prerequisites hold.
use Rattle.std.specs.Prelude.{ℕ, Bool, List, [], Option, Some, None, option_map, position, slice_get, if◌then◌else◌}
use Rattle.std.specs.List.{flat_map, list_all}
use Rattle.std.specs.Option.{option_map_or}
use Rattle.booth_conf.specs.Lookups.{is_called}
use Rattle.booth_conf.specs.declared.tickets.GrantKind.{GrantKind}
use Rattle.booth_conf.specs.declared.tickets.Prereq.{Prereq}
use Rattle.booth_conf.specs.declared.tickets.TicketConf.{TicketConf}
use Rattle.booth_wire.specs.declared.codes.results.TheConstants.{SUCCESS, BUSY, NATR}
use Rattle.booth_wire.specs.declared.command.Cmd.{Cmd}
use Rattle.booth_wire.specs.declared.command.Cmd.TheVariants.{ASet, AGet, ADel, ALst, RAtr, RALs}
use Rattle.booth_wire.specs.declared.message.Head.{Head}
use Rattle.booth_wire.specs.PlainMessage.{PlainMessage, Content, Attr, Text}
use Rattle.booth_auth.specs.Sealed.{stamped}
use Rattle.booth_attr.specs.declared.attrs.SetAnswer.{SetAnswer}
use Rattle.booth_attr.specs.declared.attrs.SetAnswer.TheVariants as set
use Rattle.booth_attr.specs.declared.attrs.DelAnswer.{DelAnswer}
use Rattle.booth_attr.specs.declared.attrs.DelAnswer.TheVariants as del
use Rattle.booth_attr.specs.declared.pair.Pair.{Pair}
use Rattle.booth_attr.specs.Attributes.{Attributes, pairs_of, set_answer, after_set, del_answer, after_delete}
use Rattle.booth_attr.specs.Lists.{line_of, value_of}
use Rattle.booth_attr.specs.Prerequisites.{holds_for}
use Rattle.booth_node.specs.declared.attributes.AttrRequest.{AttrRequest}
use Rattle.booth_node.specs.declared.attributes.AttrWish.{AttrWish}
use Rattle.booth_node.specs.declared.attributes.AttrWish.TheVariants as wishes
use Rattle.booth_node.specs.declared.node_config.NodeConfig.{NodeConfig}
use Rattle.booth_node.specs.Opening.{is_site_at, own_place}
use Rattle.booth_node.specs.Replies.{Reply, reply_message}

-- ---- prerequisites

-- The prerequisites of the ticket with this index.
abbrev pub prereqs_at : List TicketConf → ℕ → List Prereq
prereqs_at tickets place = option_map_or (λ ticket. ticket.prereqs) (slice_get tickets place) []

-- Whether the prerequisites for a grant of this kind hold, for the ticket with this index.
abbrev pub is_ready : NodeConfig → Attributes → ℕ → GrantKind → Bool
is_ready node attributes place kind =
    list_all (holds_for kind (pairs_of attributes place)) (prereqs_at node.config.tickets place)

-- ---- requests

-- The request for an attribute that a command names. Only a list names no attribute.
abbrev pub named_pair : (Pair → AttrWish) → Option (List ℕ) → List ℕ → Option AttrWish
named_pair wish name value =
    option_map (λ name. wish (record { name = name; value = value })) name

-- The request of a command with this name and value.
abbrev pub attr_wish : Cmd → Option (List ℕ) → List ℕ → Option AttrWish
attr_wish ASet name value = named_pair (λ pair. wishes.Set pair) name value
attr_wish AGet name value = named_pair (λ pair. wishes.Get pair) name value
attr_wish ADel name value = named_pair (λ pair. wishes.Delete pair) name value
attr_wish ALst name value = Some wishes.List
attr_wish cmd name value = None

abbrev pub attr_request_of : Head → Content → Option AttrRequest
attr_request_of head (Attr part) =
    option_map (λ wish. record { ticket = part.ticket; number = head.request; wish = wish })
    (attr_wish head.cmd part.name part.value)
attr_request_of head content = None

-- The request in a client's message, if it is about attributes.
abbrev pub attr_request_in : PlainMessage → Option AttrRequest
attr_request_in message = attr_request_of message.head message.content

-- This member is a site.
abbrev pub is_at_site : NodeConfig → Bool
is_at_site node = is_site_at node.config.members (own_place node)

-- The place of the ticket with this name, if this member is a site. An arbitrator has no attributes.
abbrev pub attended_place : NodeConfig → List ℕ → Option ℕ
attended_place node name =
    if is_at_site node then position (is_called name) node.config.tickets else None

-- ---- the attributes afterwards

-- The attributes after a request about the ticket with this index.
abbrev pub after_wish : Attributes → ℕ → AttrWish → Attributes
after_wish all place (wishes.Set pair) = after_set all place pair.name pair.value
after_wish all place (wishes.Get pair) = all
after_wish all place (wishes.Delete pair) = after_delete all place pair.name
after_wish all place wishes.List = all

-- ---- the reply

-- The content of a reply that repeats the ticket, the name and the value.
abbrev pub repeated : List ℕ → Pair → Content
repeated ticket pair =
    Attr (record { ticket = ticket; name = Some pair.name; value = pair.value })

-- The result of setting an attribute. It differs from success if there is no room for one more name.
abbrev pub set_result : SetAnswer → ℕ
set_result set.Done = SUCCESS
set_result set.Full = BUSY

-- The result of deleting an attribute. It differs from success if there is no such name.
abbrev pub del_result : DelAnswer → ℕ
del_result del.Done = SUCCESS
del_result del.NoSuch = NATR

-- The reply with the value of a name, if the name exists.
abbrev pub get_reply : List ℕ → Pair → Option (List ℕ) → Reply
get_reply ticket pair None = record { result = NATR; content = repeated ticket pair }
get_reply ticket pair (Some value) =
    record { result = SUCCESS; content = repeated ticket (record pair { value = value }) }

-- The text of the reply: for a list, a line for each attribute of the ticket; for any other request, nothing.
abbrev pub pairs_text : Attributes → ℕ → AttrWish → List ℕ
pairs_text all place wishes.List = flat_map line_of (pairs_of all place)
pairs_text all place wish = []

abbrev pub attr_reply : Attributes → ℕ → List ℕ → AttrWish → Reply
attr_reply all place ticket (wishes.Set pair) =
    record { result = set_result (set_answer all place pair.name); content = repeated ticket pair }
attr_reply all place ticket (wishes.Get pair) =
    get_reply ticket pair (value_of pair.name (pairs_of all place))
attr_reply all place ticket (wishes.Delete pair) =
    record { result = del_result (del_answer all place pair.name); content = repeated ticket pair }
attr_reply all place ticket wishes.List =
    record { result = SUCCESS; content = Text (pairs_text all place wishes.List) }

-- The command that answers a request.
abbrev pub attr_answer : AttrWish → Cmd
attr_answer (wishes.Set pair) = RAtr
attr_answer (wishes.Get pair) = RAtr
attr_answer (wishes.Delete pair) = RAtr
attr_answer wishes.List = RALs

-- The reply to a request about the attributes of the ticket with this index, as it is sent at this moment.
abbrev pub attr_message : NodeConfig → ℕ → Attributes → ℕ → AttrRequest → PlainMessage
attr_message node now all place request =
    stamped node.ring now
    (reply_message node.me request.number (attr_answer request.wish)
    (attr_reply all place request.ticket request.wish))
