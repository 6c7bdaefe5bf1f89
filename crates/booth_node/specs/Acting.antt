-- The events of a ticket, and their effect on the other tickets.
use Rattle.std.specs.Prelude.{◌≡◌, ◌≢◌, ◌<◌, ℕ, List, slice_get, slice_set, Some}
use Rattle.booth_ticket.specs.Ticket.{TicketState, IsDue}
use Rattle.booth_node.specs.declared.event.Event.{Event}
use Rattle.booth_node.specs.declared.event.Event.TheVariants.{Due, Heard, Asked, Over}

-- The event may happen to the ticket at this moment: a deadline that has passed, a message of another member, a
-- client's request, or the end of a handler.
abbrev pub MayBefall : TicketState → Event → ℕ → Type 0
MayBefall ticket Due now = IsDue ticket.known now
MayBefall ticket (Heard from head part) now = (from < ticket.setup.members) × (from ≢ ticket.setup.place)
MayBefall ticket (Asked request) now = Unit {0}
MayBefall ticket (Over number service) now = Unit {0}

-- The list has this ticket at the place, with the same setup, and all other tickets are unchanged.
pub record IsSetAt (old : List TicketState) (place : ℕ) (new : List TicketState) : Type 0 where
  pub before : TicketState
  pub after : TicketState
  pub there : slice_get old place ≡ Some before
  pub same : after.setup ≡ before.setup
  pub is : new ≡ slice_set old place after
