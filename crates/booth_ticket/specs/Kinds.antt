-- The code's ticket in the form in which contracts see it. No public clause cites this module.
use Rattle.std.specs.Prelude.{◌≡◌, None}
use Rattle.booth_ticket.specs.declared.ticket.Kind.{Kind}
use Rattle.booth_ticket.specs.declared.ticket.Kind.TheVariants as kinds
use Rattle.booth_ticket.specs.Ticket.{TicketState, Automatic, Manual}

abbrev pub state_of : Kind → TicketState
state_of (kinds.Automatic core) = record { setup = core.setup; known = Automatic core.view }
state_of (kinds.Manual ticket) = record { setup = ticket.setup; known = Manual ticket.known }

-- No write waits between two calls. For a manual ticket this holds by its definition.
abbrev pub IsIdle : Kind → Type 0
IsIdle (kinds.Automatic core) = core.view.waiting ≡ None
IsIdle (kinds.Manual ticket) = Unit {0}
