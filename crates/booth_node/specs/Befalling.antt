-- The events of a ticket in a turn, and the requests about its attributes, under names for other crates.
use Rattle.std.specs.Prelude.{ℕ}
use Rattle.booth_wire.specs.declared.message.Head.{Head}
use Rattle.booth_wire.specs.declared.message.TicketPart.{TicketPart}
use Rattle.booth_ticket.specs.declared.handling.Service.{Service}
use Rattle.booth_ticket.specs.declared.request.Request.{Request}
use Rattle.booth_node.specs.declared.attributes.AttrRequest.{AttrRequest}
use Rattle.booth_node.specs.declared.event.Event.{Event}
use Rattle.booth_node.specs.declared.event.Event.TheVariants.{Due, Heard, Asked, Over}

abbrev pub Befalling : Type 0
Befalling = Event

-- The ticket's deadline has passed.
abbrev pub comes_due : Befalling
comes_due = Due

-- The member with this index sent a message about the ticket.
abbrev pub is_told : ℕ → Head → TicketPart → Befalling
is_told from head part = Heard from head part

-- A client sent a request about the ticket.
abbrev pub is_asked : Request → Befalling
is_asked request = Asked request

-- A handler has ended.
abbrev pub ends_job : ℕ → Service → Befalling
ends_job job service = Over job service

-- A client's request about the attributes of a ticket.
abbrev pub AttributeAsking : Type 0
AttributeAsking = AttrRequest
