-- The state of a node between two turns, as plain data.
use Rattle.std.specs.Prelude.{ℕ, List, slice_set}
use Rattle.booth_attr.specs.Attributes.{Attributes}
use Rattle.booth_node.specs.declared.state.Common.{Common}
use Rattle.booth_ticket.specs.declared.waiters.Waiter.{Waiter}
use Rattle.booth_ticket.specs.Ticket.{TicketState, TicketLeft}

-- The state: the tickets in the order of the configuration, the clients that wait for each, the attributes of each,
-- the counters, and the last reading that was used, in milliseconds.
pub record State : Type 0 where
  pub tickets : List TicketState
  pub waiters : List (List Waiter)
  pub attributes : Attributes
  pub common : Common
  pub last_reading : ℕ

-- The state after a call of the ticket with this index, with that ticket replaced and the counters changed.
abbrev pub with_ticket : State → ℕ → Common → TicketLeft → State
with_ticket state place common left = record state {
  tickets = slice_set state.tickets place left.ticket;
  waiters = slice_set state.waiters place left.waiters;
  common = common;
}

-- The state that consists of these parts.
abbrev pub state_of_parts : List TicketState → List (List Waiter) → Attributes → Common → ℕ → State
state_of_parts tickets waiters attributes common last_reading = record {
  tickets = tickets;
  waiters = waiters;
  attributes = attributes;
  common = common;
  last_reading = last_reading;
}
