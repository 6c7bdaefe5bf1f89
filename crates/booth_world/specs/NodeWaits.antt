-- In each world, a ticket for which a client waits has a deadline.
use Rattle.std.specs.Prelude.{◌≡◌, ◌⊎◌, ℕ, ◌<◌, ◌≤◌, true, [], Some, IsSomeAnd, is_some, slice_get}
use Rattle.booth_wire.specs.declared.message.Setup.{Setup}
use Rattle.booth_ticket.specs.ManualHandling.{manual_deadline}
use Rattle.booth_ticket.specs.Ticket.{TicketState, Known, Automatic, Manual}
use Rattle.booth_ticket.specs.Waiting.{waiting_at}
use Rattle.booth_node.specs.Held.{Moment}
use Rattle.booth_node.specs.Session.{Stand, Doing, Hearing}
use Rattle.booth_node.specs.State.{State}
use Rattle.booth_node.specs.World.{World, members_of, stand_after, IsUntimedWorld}
use Rattle.booth_base.specs.Tree.{Ends}
use Rattle.booth_world.specs.Waits.{latest}

-- The ticket has a deadline. The deadline of an automatic ticket is not later than `latest`.
abbrev pub IsComing : Setup → ℕ → Known → Type 0
IsComing setup now (Automatic view) = IsSomeAnd view.due (λ due. due ≤ latest setup view now)
IsComing setup now (Manual known) = is_some (manual_deadline known) ≡ true

abbrev pub RestsWithDeadlines : State → Type 0
RestsWithDeadlines state =
    (place : ℕ) (ticket : TicketState) → slice_get state.tickets place ≡ Some ticket
    → (waiting_at state.waiters place ≡ []) ⊎ IsComing ticket.setup state.last_reading ticket.known

-- Each ticket with a waiting client has a deadline between two turns, and when a turn begins.
abbrev pub StandsWithDeadlines : Stand → Type 0
StandsWithDeadlines (Doing node (Ends state)) = RestsWithDeadlines state
StandsWithDeadlines (Hearing node old answer bytes) = RestsWithDeadlines old
StandsWithDeadlines stand = Unit {0}

abbrev pub WorldsWaitersHaveDeadlines : Type 0
WorldsWaitersHaveDeadlines =
    (w : World) → IsUntimedWorld w → (m : ℕ) → m < members_of w → (moment : Moment w)
    → StandsWithDeadlines (stand_after m moment.before)
