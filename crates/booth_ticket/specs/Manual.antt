-- The state of a manual ticket, and its actions for a member's message.
use Rattle.std.specs.Prelude.{ℕ, List, Option, Some, None, if◌then◌else◌}
use Rattle.booth_base.specs.Tree.{Deeds, Ends, ◌>>◌}
use Rattle.booth_rec.specs.declared.record.Record.{Record}
use Rattle.booth_wire.specs.declared.message.Head.{Head}
use Rattle.booth_wire.specs.declared.message.TicketPart.{TicketPart}
use Rattle.booth_wire.specs.declared.message.Setup.{Setup}
use Rattle.booth_manual.specs.declared.view.ManualView.{ManualView}
use Rattle.booth_manual.specs.Hearing.{hear}
use Rattle.booth_manual.specs.declared.view.TheConstants.{NO_END_SECONDS}
use Rattle.booth_manual.specs.Messages.{holder, part_of}
use Rattle.booth_manual.specs.Outcome.{Outcome}
use Rattle.booth_manual.specs.Start.{started}
use Rattle.booth_manual.specs.State.{State}
use Rattle.booth_ticket.specs.declared.manual.Job.{Job}
use Rattle.booth_ticket.specs.declared.waiters.Waiter.{Waiter}
use Rattle.booth_ticket.specs.Acts.{Ask}
use Rattle.booth_ticket.specs.Saying.{say}

-- The state of a manual ticket: the view of its rules; the reading of its start, until it has asked all members for
-- their state; and the handler that runs before a grant.
pub record ManualKnown : Type 0 where
  pub view : ManualView
  pub greets_at : Option ℕ
  pub job : Option Job

-- The state that consists of these parts.
abbrev pub known_as : ManualView → Option ℕ → Option Job → ManualKnown
known_as view greets_at job = record { view = view; greets_at = greets_at; job = job }

-- A manual ticket: its setup, and its state.
pub record ManualState : Type 0 where
  pub setup : Setup
  pub known : ManualKnown

-- The state of the ticket's rules.
abbrev pub rules_of : ManualState → State
rules_of ticket = record { setup = ticket.setup; view = ticket.known.view }

-- A manual ticket, from its rules and the rest of its state.
abbrev pub ticket_as : State → Option ℕ → Option Job → ManualState
ticket_as rules greets_at job = record { setup = rules.setup; known = known_as rules.view greets_at job }

-- The result of a call: the ticket, and the clients that wait.
pub record ManualLeft : Type 0 where
  pub ticket : ManualState
  pub waiters : List Waiter

-- The state at a start from the record that was written last. The ticket will ask all members for their state at
-- once.
abbrev pub manual_started : Record → ℕ → ManualKnown
manual_started rec now = record { view = started rec; greets_at = Some now; job = None }

-- The result of the rule for a message's command.
abbrev pub heard_of : ManualState → Head → TicketPart → Outcome
heard_of ticket head part = hear ticket.setup ticket.known.view head part head.cmd

-- The actions for a member's message. The rules' answer goes back to the sender.
unfoldable pub manual_heard : ManualState → ℕ → Head → TicketPart → Deeds Ask ManualState
manual_heard ticket from head part = do
  say ticket.setup (Some from) (heard_of ticket head part).say
  Ends (record ticket { known = record ticket.known { view = (heard_of ticket head part).view } })

-- The state for clients: the holder, the own term, and the seconds left. The seconds are unknown for another member's
-- lease.
abbrev pub manual_state : Setup → ManualView → TicketPart
manual_state setup view =
    part_of setup (holder setup view) view.term (if view.owner then NO_END_SECONDS else 0)
