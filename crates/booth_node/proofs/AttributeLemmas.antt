-- What answers a request about attributes.
use Rattle.std.proofs.Common.{◌≡◌, ℕ, List}
use Rattle.std.specs.Prelude.{Option, Some, None}
use Rattle.booth_wire.specs.declared.command.Cmd.TheVariants.{RLst}
use Rattle.booth_wire.specs.declared.message.TicketPart.{TicketPart}
use Rattle.booth_wire.specs.PlainMessage.{Ticket}
use Rattle.booth_attr.specs.declared.pair.Pair.{Pair}
use Rattle.booth_attr.specs.Attributes.{Attributes, pairs_of}
use Rattle.booth_attr.specs.Lists.{value_of}
use Rattle.booth_node.specs.declared.attributes.AttrRequest.{AttrRequest}
use Rattle.booth_node.specs.declared.attributes.AttrWish.{AttrWish}
use Rattle.booth_node.specs.declared.attributes.AttrWish.TheVariants as wishes
use Rattle.booth_node.specs.declared.node_config.NodeConfig.{NodeConfig}
use Rattle.booth_node.specs.AttributeRequests.{attr_answer, attr_message, attr_reply, get_reply}

get_is_none : (ticket : List ℕ) (pair : Pair) (value : Option (List ℕ)) (part : TicketPart) → (get_reply ticket pair value).content ≡ Ticket part → ⊥
get_is_none ticket pair None part e = cc
get_is_none ticket pair (Some value) part e = cc

reply_is_none : (all : Attributes) (place : ℕ) (ticket : List ℕ) (wish : AttrWish) (part : TicketPart)
    → (attr_reply all place ticket wish).content ≡ Ticket part → ⊥
reply_is_none all place ticket (wishes.Set pair) part e = cc
reply_is_none all place ticket (wishes.Get pair) part e = get_is_none ticket pair (value_of pair.name (pairs_of all place)) part e
reply_is_none all place ticket (wishes.Delete pair) part e = cc
reply_is_none all place ticket wishes.List part e = cc

-- it says nothing of the ticket itself
pub attr_is_no_ticket : (node : NodeConfig) (now : ℕ) (all : Attributes) (place : ℕ) (request : AttrRequest) (part : TicketPart)
    → (attr_message node now all place request).content ≡ Ticket part → ⊥
attr_is_no_ticket node now all place request part e = reply_is_none all place request.ticket request.wish part e

-- and is no list of tickets
pub attr_is_no_list : (wish : AttrWish) → attr_answer wish ≡ RLst → ⊥
attr_is_no_list (wishes.Set pair) e = cc
attr_is_no_list (wishes.Get pair) e = cc
attr_is_no_list (wishes.Delete pair) e = cc
attr_is_no_list wishes.List e = cc
