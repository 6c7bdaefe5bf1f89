-- The requests of a follower: for its ticket, and for a list if the daemon does not answer the first one.
use Rattle.std.specs.Prelude.{ℕ, ◌%◌, ◌^◌, false, List}
use Rattle.booth_base.specs.declared.address.TheConstants.{NO_ONE}
use Rattle.booth_wire.specs.declared.command.Cmd.{Cmd}
use Rattle.booth_wire.specs.declared.command.Cmd.TheVariants.{CLst, CTkt}
use Rattle.booth_wire.specs.declared.message.Head.{Head}
use Rattle.booth_wire.specs.PlainMessage.{PlainMessage, Bare, Ticket}
use Rattle.booth_auth.specs.Sealed.{sealed, stamped}
use Rattle.booth_following.specs.declared.following.Following.{Following}

-- the number of the requests that are sent at this reading
abbrev pub number_of : ℕ → ℕ
number_of start = start % 2 ^ 32

abbrev pub request_head : Cmd → ℕ → Head
request_head cmd start = record {
  auth = false;
  secs = 0;
  usecs = 0;
  from = record { 0 = 0 };
  cmd = cmd;
  request = number_of start;
  options = 0;
  reason = 0;
  result = 0;
}

-- the request for a ticket, without time and MAC: it names the ticket, and says nothing about it
abbrev pub ticket_request : List ℕ → ℕ → PlainMessage
ticket_request ticket start = record {
  head = request_head CTkt start;
  content = Ticket (record { ticket = ticket; leader = NO_ONE; term = 0; valid_for = 0 });
}

-- the request for a list, without time and MAC
abbrev pub list_request : ℕ → PlainMessage
list_request start = record { head = request_head CLst start; content = Bare }

-- the bytes that are sent at this reading: the request for the ticket, and the request for a list
abbrev pub request_bytes : Following → ℕ → List ℕ
request_bytes f start = sealed f.ring (stamped f.ring start (ticket_request f.ticket start))

abbrev pub list_bytes : Following → ℕ → List ℕ
list_bytes f start = sealed f.ring (stamped f.ring start (list_request start))
