-- A client's request, its receiver, and its bytes.
use Rattle.std.specs.Prelude.{ℕ, ◌+◌, ◌%◌, ◌^◌, ◌||◌, Bool, true, false, List, [], Option, Some, None, option_map, if◌then◌else◌}
use Rattle.std.specs.List.{find}
use Rattle.booth_base.specs.declared.address.MemberId.{MemberId}
use Rattle.booth_base.specs.declared.address.Peer.{Peer as Place}
use Rattle.booth_base.specs.declared.address.TheConstants.{NO_ONE}
use Rattle.booth_conf.specs.Config.{ConfigSays, has_id}
use Rattle.booth_conf.specs.declared.members.Member.{Member}
use Rattle.booth_wire.specs.declared.codes.options.TheConstants.{IMMEDIATE, WAIT, COMMIT}
use Rattle.booth_wire.specs.declared.command.Cmd.{Cmd}
use Rattle.booth_wire.specs.declared.command.Cmd.TheVariants.{CLst, CTkt, Peer, CGnt, CRvk, ASet, AGet, ADel, ALst}
use Rattle.booth_wire.specs.declared.message.AttrPart.{AttrPart}
use Rattle.booth_wire.specs.declared.message.TicketPart.{TicketPart}
use Rattle.booth_wire.specs.PlainMessage.{PlainMessage, Content, Bare, Ticket, Attr}
use Rattle.booth_auth.specs.Sealed.{sealed, stamped}
use Rattle.booth_talk.specs.declared.order.Asking.{Asking}
use Rattle.booth_talk.specs.declared.order.Options.{Options}
use Rattle.booth_talk.specs.declared.order.Order.{Order}
use Rattle.booth_talk.specs.declared.order.Order.TheVariants as orders

-- ---- requests

abbrev pub cmd_of : Order → Cmd
cmd_of orders.List = CLst
cmd_of (orders.Show ticket style) = CTkt
cmd_of orders.Peers = Peer
cmd_of orders.Status = Peer
cmd_of (orders.Grant ticket options) = CGnt
cmd_of (orders.Revoke ticket options) = CRvk
cmd_of (orders.SetAttribute ticket name value) = ASet
cmd_of (orders.GetAttribute ticket name) = AGet
cmd_of (orders.DeleteAttribute ticket name) = ADel
cmd_of (orders.ListAttributes ticket) = ALst

-- The order is for the list of tickets, which comes in parts.
abbrev pub is_list : Order → Bool
is_list orders.List = true
is_list order = false

abbrev pub no_options : Options
no_options = record { immediate = false; wait = false; commit = false }

abbrev pub order_options : Order → Options
order_options (orders.Grant ticket options) = options
order_options (orders.Revoke ticket options) = options
order_options order = no_options

-- The client waits for the outcome.
abbrev pub is_waiting : Options → Bool
is_waiting o = o.wait || o.commit

abbrev pub bit : Bool → ℕ → ℕ
bit set value = if set then value else 0

-- The bits of a request. A client that sets `commit` waits too.
abbrev pub options_of : Options → ℕ
options_of o = bit o.immediate IMMEDIATE + bit (is_waiting o) WAIT + bit o.commit COMMIT

-- ---- the request

-- The number of a request that is sent at this reading.
abbrev pub number_of : ℕ → ℕ
number_of start = start % 2 ^ 32

-- The part with the ticket's name and nothing else.
abbrev pub asked_part : List ℕ → TicketPart
asked_part ticket = record { ticket = ticket; leader = NO_ONE; term = 0; valid_for = 0 }

-- The part with the ticket's name, and the attribute's name if there is one. Only a request to set an attribute has a
-- value.
abbrev pub asked_attribute : List ℕ → Option (List ℕ) → List ℕ → AttrPart
asked_attribute ticket name value = record { ticket = ticket; name = name; value = value }

abbrev pub asked_content : Order → Content
asked_content orders.List = Bare
asked_content (orders.Show ticket style) = Ticket (asked_part ticket)
asked_content orders.Peers = Bare
asked_content orders.Status = Bare
asked_content (orders.Grant ticket options) = Ticket (asked_part ticket)
asked_content (orders.Revoke ticket options) = Ticket (asked_part ticket)
asked_content (orders.SetAttribute ticket name value) = Attr (asked_attribute ticket (Some name) value)
asked_content (orders.GetAttribute ticket name) = Attr (asked_attribute ticket (Some name) [])
asked_content (orders.DeleteAttribute ticket name) = Attr (asked_attribute ticket (Some name) [])
asked_content (orders.ListAttributes ticket) = Attr (asked_attribute ticket None [])

-- The message of a request, except time and MAC.
abbrev pub request : Order → ℕ → PlainMessage
request order start = record {
  head = record {
    auth = false;
    secs = 0;
    usecs = 0;
    from = record { 0 = 0 };
    cmd = cmd_of order;
    request = number_of start;
    options = options_of (order_options order);
    reason = 0;
    result = 0;
  };
  content = asked_content order;
}

-- The bytes that are sent at this reading.
abbrev pub request_bytes : Asking → ℕ → List ℕ
request_bytes asking start = sealed asking.ring (stamped asking.ring start (request asking.order start))

-- ---- members

abbrev pub peer_at : ConfigSays → Member → Place
peer_at config member = record { address = member.address; port = config.port }

-- The address at which the member with this id listens.
abbrev pub find_peer : ConfigSays → MemberId → Option Place
find_peer config id = option_map (peer_at config) (find (has_id id) config.members)
