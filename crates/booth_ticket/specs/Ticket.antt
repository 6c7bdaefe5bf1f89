-- A ticket between two calls, and its actions in each call.
use Rattle.std.specs.Prelude.{◌≤◌, ℕ, ◌/◌, nat_lt, List, Option, Some, None, IsSomeAnd, if◌then◌else◌}
use Rattle.booth_base.specs.Tree.{Deeds, Ends, ◌>>=◌}
use Rattle.booth_rec.specs.declared.record.Record.{Record}
use Rattle.booth_wire.specs.declared.message.Head.{Head}
use Rattle.booth_wire.specs.declared.message.TicketPart.{TicketPart}
use Rattle.booth_wire.specs.declared.message.Setup.{Setup}
use Rattle.booth_raft.specs.declared.view.Shown.{Shown}
use Rattle.booth_raft.specs.declared.view.View.{View}
use Rattle.booth_raft.specs.Messages.{part_of}
use Rattle.booth_raft.specs.StartAndLearn.{started}
use Rattle.booth_base.specs.declared.address.MemberId.{MemberId}
use Rattle.booth_base.specs.declared.address.TheConstants.{NO_ONE}
use Rattle.booth_manual.specs.declared.view.ManualView.{ManualView}
use Rattle.booth_ticket.specs.declared.handling.Service.{Service}
use Rattle.booth_ticket.specs.declared.ticket.Owner.{Owner}
use Rattle.booth_ticket.specs.declared.request.Given.{Given}
use Rattle.booth_ticket.specs.declared.request.Request.{Request}
use Rattle.booth_ticket.specs.declared.waiters.Waiter.{Waiter}
use Rattle.booth_ticket.specs.Acts.{Ask}
use Rattle.booth_ticket.specs.Automatic.{come_due, end_job, hear}
use Rattle.booth_ticket.specs.Manual.{ManualKnown, ManualLeft, manual_started, manual_heard}
use Rattle.booth_ticket.specs.ManualHandling.{manual_deadline, manual_due, manual_over}
use Rattle.booth_ticket.specs.ManualRequests.{manual_asked}
use Rattle.booth_ticket.specs.Requests.{follow_request, told_part}
use Rattle.booth_ticket.specs.Waiting.{Left}

-- The state of a ticket's rules, by its kind.
pub data Known : Type 0 where
  Automatic : View → Known
  Manual : ManualKnown → Known

-- A ticket: its setup, and the state of its rules.
pub record TicketState : Type 0 where
  pub setup : Setup
  pub known : Known

-- An automatic ticket at its start from the record that was written last.
abbrev pub opened : Setup → Record → ℕ → TicketState
opened setup rec now = record { setup = setup; known = Automatic (started setup rec now) }

-- A manual ticket at its start from the record that was written last.
abbrev pub opened_by_hand : Setup → Record → ℕ → TicketState
opened_by_hand setup rec now = record { setup = setup; known = Manual (manual_started rec now) }

-- The result of a call: the ticket, and the clients that wait for it.
pub record TicketLeft : Type 0 where
  pub ticket : TicketState
  pub waiters : List Waiter

-- The result of an automatic ticket's call.
abbrev pub left_as : Left → TicketLeft
left_as left = record {
  ticket = record { setup = left.core.setup; known = Automatic left.core.view };
  waiters = left.waiters;
}

-- The result of a manual ticket's call.
abbrev pub left_by_hand : ManualLeft → TicketLeft
left_by_hand left = record {
  ticket = record { setup = left.ticket.setup; known = Manual left.ticket.known };
  waiters = left.waiters;
}

-- The actions for a message of the member with this index.
abbrev pub ticket_heard : Setup → Known → List Waiter → ℕ → Head → TicketPart → ℕ → Deeds Ask TicketLeft
ticket_heard setup (Automatic view) waiters from head part now = do
  left ← hear (record { setup = setup; view = view }) waiters from head part now
  Ends (left_as left)
ticket_heard setup (Manual known) waiters from head part now = do
  ticket ← manual_heard (record { setup = setup; known = known }) from head part
  Ends (left_by_hand (record { ticket = ticket; waiters = waiters }))

-- The actions for a client's request. This many more clients may wait.
abbrev pub ticket_asked : Setup → Known → List Waiter → ℕ → Given → Request → Deeds Ask TicketLeft
ticket_asked setup (Automatic view) waiters spare given request = do
  left ← follow_request (record { setup = setup; view = view }) waiters spare given request request.wish
  Ends (left_as left)
ticket_asked setup (Manual known) waiters spare given request = do
  left ← manual_asked (record { setup = setup; known = known }) waiters spare given request
  Ends (left_by_hand left)

-- The actions at the deadline.
abbrev pub ticket_due : Setup → Known → List Waiter → Given → Deeds Ask TicketLeft
ticket_due setup (Automatic view) waiters given = do
  left ← come_due (record { setup = setup; view = view }) waiters given
  Ends (left_as left)
ticket_due setup (Manual known) waiters given = do
  left ← manual_due (record { setup = setup; known = known }) waiters given.now
  Ends (left_by_hand left)

-- The actions after the end of a handler.
abbrev pub ticket_over : Setup → Known → List Waiter → ℕ → Service → ℕ → Deeds Ask TicketLeft
ticket_over setup (Automatic view) waiters job service now = do
  left ← end_job (record { setup = setup; view = view }) waiters job service now
  Ends (left_as left)
ticket_over setup (Manual known) waiters job service now = do
  left ← manual_over (record { setup = setup; known = known }) waiters job service
  Ends (left_by_hand left)

-- The next deadline of the ticket.
abbrev pub deadline : Known → Option ℕ
deadline (Automatic view) = view.due
deadline (Manual known) = manual_deadline known

-- The deadline has passed.
abbrev pub IsDue : Known → ℕ → Type 0
IsDue known now = IsSomeAnd (deadline known) (λ due. due ≤ now)

-- The site that is the known owner now, and the end of its lease in whole seconds.
abbrev pub shown_owner : Option Shown → ℕ → Option Owner
shown_owner None now = None
shown_owner (Some shown) now =
    if nat_lt now shown.until
    then Some (record { site = shown.owner; until_secs = shown.until / 1000 })
    else None

-- The site that holds a manual ticket. Its lease has no end, so the end is given as 0.
abbrev pub endless_owner : Option MemberId → Option Owner
endless_owner None = None
endless_owner (Some site) = Some (record { site = site; until_secs = 0 })

-- The holder of a manual ticket as far as this member knows: itself, or the known holder.
abbrev pub manual_owner : Setup → ManualView → Option Owner
manual_owner setup view = endless_owner (if view.owner then Some setup.me else view.shown)

abbrev pub owner : Setup → Known → ℕ → Option Owner
owner setup (Automatic view) now = shown_owner view.shown now
owner setup (Manual known) now = manual_owner setup known.view

-- The part that names the owner of a manual ticket, without a term, and with the greatest possible number of seconds.
abbrev pub endless_part : Setup → Option Owner → TicketPart
endless_part setup None = part_of setup NO_ONE 0 0
endless_part setup (Some shown) = part_of setup shown.site 0 4294967295

-- The reply to a client that asks for this ticket alone.
abbrev pub told_ticket : Setup → Known → ℕ → TicketPart
told_ticket setup (Automatic view) now = told_part setup view now
told_ticket setup (Manual known) now = endless_part setup (manual_owner setup known.view)
