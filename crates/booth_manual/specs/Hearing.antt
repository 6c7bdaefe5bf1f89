-- What a member learns from another member's message, and how it answers.
use Rattle.std.specs.Prelude.{Bool, false, not, ◌&&◌, is_none, Option, Some, None, if◌then◌else◌}
use Rattle.booth_base.specs.declared.address.MemberId.{MemberId}
use Rattle.booth_base.specs.declared.address.TheConstants.{NO_ONE}
use Rattle.booth_wire.specs.declared.command.Cmd.{Cmd}
use Rattle.booth_wire.specs.declared.command.Cmd.TheVariants as cmds
use Rattle.booth_wire.specs.declared.message.Head.{Head}
use Rattle.booth_wire.specs.declared.message.TicketPart.{TicketPart}
use Rattle.booth_wire.specs.declared.message.Setup.{Setup}
use Rattle.booth_manual.specs.declared.view.ManualView.{ManualView}
use Rattle.booth_manual.specs.Messages.{is_same, tells_state}
use Rattle.booth_manual.specs.Outcome.{Outcome, quiet, saying}

-- a member announces that it holds the ticket: the receiver then knows it as the holder, unless the receiver is the
-- owner
abbrev pub updated : ManualView → MemberId → ManualView
updated view site = if view.owner then view else record view { shown = Some site }

abbrev pub is_shown : Option MemberId → MemberId → Bool
is_shown None member = false
is_shown (Some other) member = is_same other member

-- a member announces that it released the ticket: if it was the known holder, there is none any more
abbrev pub revoked : ManualView → MemberId → ManualView
revoked view site = if is_shown view.shown site then record view { shown = None } else view

-- a message of state names another member as the holder: the receiver then knows it as the holder if it knew none,
-- unless the receiver is the owner
abbrev pub learned : Setup → ManualView → MemberId → ManualView
learned setup view leader =
    if is_none view.shown && not view.owner
    && not (is_same leader NO_ONE) && not (is_same leader setup.me)
    then record view { shown = Some leader }
    else view

-- The rules ignore the terms in messages. A request for the state is answered with what was known before it. All
-- other commands are not for these rules.
abbrev pub hear : Setup → ManualView → Head → TicketPart → Cmd → Outcome
hear setup view head part cmds.UpdE = quiet (updated view head.from)
hear setup view head part cmds.Revk = quiet (revoked view head.from)
hear setup view head part cmds.Stat =
    saying (learned setup view part.leader) (tells_state setup view head)
hear setup view head part cmds.MIdx = quiet (learned setup view part.leader)
hear setup view head part cmd = quiet view
