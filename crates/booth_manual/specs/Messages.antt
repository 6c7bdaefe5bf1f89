-- The messages that the rules send to members. A member sets `from` itself, and `auth`, `secs` and `usecs` when it
-- sends.
use Rattle.std.specs.Prelude.{ℕ, Bool, ◌==◌, Option, Some, None, false, if◌then◌else◌}
use Rattle.booth_base.specs.declared.address.MemberId.{MemberId}
use Rattle.booth_base.specs.declared.address.TheConstants.{NO_ONE}
use Rattle.booth_wire.specs.declared.command.Cmd.{Cmd}
use Rattle.booth_wire.specs.declared.command.Cmd.TheVariants.{Stat, MIdx, UpdE, Revk}
use Rattle.booth_wire.specs.declared.codes.reasons.TheConstants.{ADMN, NONE}
use Rattle.booth_wire.specs.declared.message.Head.{Head}
use Rattle.booth_wire.specs.declared.message.TicketPart.{TicketPart}
use Rattle.booth_wire.specs.declared.message.Setup.{Setup}
use Rattle.booth_wire.specs.declared.message.Say.{Say}
use Rattle.booth_wire.specs.declared.message.Say.TheVariants as says
use Rattle.booth_manual.specs.declared.view.TheConstants.{NO_END_SECONDS}
use Rattle.booth_manual.specs.declared.view.ManualView.{ManualView}

abbrev pub is_same : MemberId → MemberId → Bool
is_same a b = a.0 == b.0

abbrev pub head_of : Setup → Cmd → ℕ → ℕ → Head
head_of setup cmd request reason = record {
  auth = false;
  secs = 0;
  usecs = 0;
  from = setup.me;
  cmd = cmd;
  request = request;
  options = 0;
  reason = reason;
  result = 0;
}

abbrev pub part_of : Setup → MemberId → ℕ → ℕ → TicketPart
part_of setup leader term valid_for =
    record { ticket = setup.ticket; leader = leader; term = term; valid_for = valid_for }

abbrev pub shown_or_none : Option MemberId → MemberId
shown_or_none None = NO_ONE
shown_or_none (Some member) = member

-- the holder as far as this member knows: itself, or the known holder, or no one
abbrev pub holder : Setup → ManualView → MemberId
holder setup view = if view.owner then setup.me else shown_or_none view.shown

-- a manual lease has no end; without a holder there is no time left
abbrev pub seconds_for : MemberId → ℕ
seconds_for leader = if is_same leader NO_ONE then 0 else NO_END_SECONDS

-- the state in messages: the holder, the own term, the seconds left
abbrev pub state_part : Setup → ManualView → TicketPart
state_part setup view = part_of setup (holder setup view) view.term (seconds_for (holder setup view))

-- asks all members for their state
abbrev pub asks_state : Setup → ManualView → Say
asks_state setup view = says.All (head_of setup Stat 0 NONE) (state_part setup view)

-- answers a member that asked for the state
abbrev pub tells_state : Setup → ManualView → Head → Say
tells_state setup view asked =
    says.Reply (head_of setup MIdx asked.request NONE) (state_part setup view)

-- announces to all members that this site holds the ticket
abbrev pub tells_grant : Setup → ℕ → Say
tells_grant setup term =
    says.All (head_of setup UpdE 0 NONE) (part_of setup setup.me term NO_END_SECONDS)

-- announces to all members that the ticket was released
abbrev pub revokes : Setup → ℕ → Say
revokes setup term = says.All (head_of setup Revk 0 ADMN) (part_of setup NO_ONE term 0)
