-- A daemon's answer about one ticket.
use Rattle.std.specs.Prelude.{◌==◌, ◌&&◌, ◌||◌, ℕ, ◌+◌, ◌-◌, ◌*◌, ◌/◌, Bool, nat_lt, bytes_eq, List, Option, Some, None, Result, Ok, Err, if◌then◌else◌}
use Rattle.booth_wire.specs.declared.codes.results.TheConstants.{IARG, SUCCESS}
use Rattle.booth_wire.specs.declared.command.Cmd.TheVariants.{RTkt}
use Rattle.booth_wire.specs.declared.message.FrameFault.{FrameFault}
use Rattle.booth_wire.specs.declared.message.Head.{Head}
use Rattle.booth_wire.specs.declared.message.TicketPart.{TicketPart}
use Rattle.booth_wire.specs.Command.{code_of}
use Rattle.booth_wire.specs.PlainMessage.{PlainMessage, Content, Ticket}
use Rattle.booth_wire.specs.Reading.{decoded}
use Rattle.booth_auth.specs.Verdict.{is_signed}
use Rattle.booth_host.specs.declared.host.Arrival.{Arrival}
use Rattle.booth_host.specs.declared.host.Arrival.TheVariants.{Datagram}
use Rattle.booth_host.specs.declared.host.Failed.{Failed}
use Rattle.booth_follow_rule.specs.declared.news.Shown.TheVariants.{Here, Elsewhere}
use Rattle.booth_following.specs.declared.following.Following.{Following}
use Rattle.booth_following.specs.declared.standing.Standing.{Standing}
use Rattle.booth_following.specs.Asking.{number_of}

-- the answer of this site to the request for the ticket that was sent at a reading; IArg says that it has no such
-- ticket
abbrev pub is_standing : Following → ℕ → PlainMessage → Bool
is_standing f asked m =
    (code_of m.head.cmd == code_of RTkt)
    && ((m.head.request == number_of asked)
    && ((m.head.from.0 == f.me.0) && ((m.head.result == SUCCESS) || (m.head.result == IARG))))

-- The end of a lease by a message that says how many seconds are left. They are rounded up, so the end is counted
-- with one second less.
abbrev pub told_end : Head → ℕ → ℕ
told_end head seconds = head.secs * 1000 + head.usecs / 1000 + (seconds - 1) * 1000

-- the message names this site, with seconds left, and was sent before the last second that a head can hold
abbrev pub names_me : Following → Head → TicketPart → Bool
names_me f head part = (part.leader.0 == f.me.0) && (nat_lt 0 part.valid_for && nat_lt head.secs 4294967295)

-- What a message says of a ticket: this site holds it until an end, by a lease of this term; or another site or
-- nobody does.
abbrev pub standing_of : Following → Head → TicketPart → Standing
standing_of f head part =
    if names_me f head part then record { shown = Here (told_end head part.valid_for); term = part.term }
    else record { shown = Elsewhere; term = 0 }

abbrev pub standing_by : Following → Head → Content → Option Standing
standing_by f head (Ticket part) = if bytes_eq part.ticket f.ticket then Some (standing_of f head part) else None
standing_by f head content = None

abbrev pub standing_read : Following → ℕ → List ℕ → Result PlainMessage FrameFault → Option Standing
standing_read f asked bytes (Ok m) =
    if is_signed f.ring m.head bytes
    then (if is_standing f asked m then standing_by f m.head m.content else None) else None
standing_read f asked bytes (Err fault) = None

-- The state of the ticket by these bytes: they are a message, it has the MAC if there is a key, and it is this site's
-- answer about this ticket.
unfoldable pub standing_in : Following → ℕ → List ℕ → Option Standing
standing_in f asked bytes = standing_read f asked bytes (decoded bytes)

-- the state of the ticket by an arrival
abbrev pub standing_at : Following → Option ℕ → Result Arrival Failed → List ℕ → Option Standing
standing_at f (Some asked) (Ok (Datagram peer)) bytes = standing_in f asked bytes
standing_at f asked answer bytes = None
