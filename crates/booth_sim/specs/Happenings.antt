-- The event that follows from its draws and from the entries before it.
use Rattle.std.specs.Prelude.{ℕ, ◌*◌, ◌/◌, ◌%◌, ◌==◌, false, List, [], ◌∷◌, length, slice_get, Option, Some, None, unwrap_or, if◌then◌else◌}
use Rattle.std.specs.Option.{option_map_or}
use Rattle.booth_base.specs.declared.address.Address.TheVariants.{V4}
use Rattle.booth_base.specs.declared.address.Peer.{Peer}
use Rattle.booth_base.specs.declared.address.TheConstants.{NO_ONE}
use Rattle.booth_conf.specs.Config.{ConfigSays}
use Rattle.booth_wire.specs.declared.command.Cmd.{Cmd}
use Rattle.booth_wire.specs.declared.command.Cmd.TheVariants.{CGnt, CRvk}
use Rattle.booth_wire.specs.PlainMessage.{PlainMessage, Ticket}
use Rattle.booth_auth.specs.Sealed.{sealed}
use Rattle.booth_host.specs.declared.host.Arrival.{Arrival}
use Rattle.booth_host.specs.declared.host.Arrival.TheVariants as arrivals
use Rattle.booth_node.specs.Reaction.{peer_at}
use Rattle.booth_node.specs.World.{WorldEntry}
use Rattle.booth_sim.specs.declared.drawing.Draw.{Draw}
use Rattle.booth_sim.specs.declared.drawing.Kind.{Kind}
use Rattle.booth_sim.specs.declared.drawing.Kind.TheVariants as kinds
use Rattle.booth_sim.specs.declared.frames.SentFrame.{SentFrame}
use Rattle.booth_sim.specs.Drawing.{kind_of, member_of, ticket_of}
use Rattle.booth_sim.specs.Frames.{chosen, kept_frames}

-- ---- clocks

-- The number of milliseconds that a member's clock advances in 1,000 seconds of true time. Of three members, one has
-- an exact clock, one the fastest allowed, and one the slowest allowed.
abbrev pub rate_at : ℕ → ℕ
rate_at place = if place % 3 == 0 then 1000000 else if place % 3 == 1 then 1001000 else 999000

-- The reading of the clock of the member with this index, at a true time.
abbrev pub reading_at : ℕ → ℕ → ℕ
reading_at place time = time * rate_at place / 1000000

-- ---- clients

-- The address of all clients: 0.0.0.0, port 0.
abbrev pub client : Peer
client = record { address = V4 (0 ∷ 0 ∷ 0 ∷ 0 ∷ []); port = 0 }

-- A client's request about a ticket, without options. Its number is the event's number.
abbrev pub request : Cmd → List ℕ → ℕ → PlainMessage
request cmd ticket event = record {
  head = record {
    auth = false;
    secs = 0;
    usecs = 0;
    from = record { 0 = 0 };
    cmd = cmd;
    request = event;
    options = 0;
    reason = 0;
    result = 0;
  };
  content = Ticket (record { ticket = ticket; leader = NO_ONE; term = 0; valid_for = 0 });
}

abbrev pub ticket_name : ConfigSays → ℕ → List ℕ
ticket_name config place = option_map_or (λ ticket. ticket.name) (slice_get config.tickets place) []

-- ---- events

-- An event: a member makes a turn, with this arrival and these bytes, or it is stopped and starts again.
pub data Happening : Type 0 where
  Turns : (place : ℕ) (arrival : Arrival) (bytes : List ℕ) → Happening
  Restarts : (place : ℕ) → Happening

-- The address at which the member with this index listens.
abbrev pub peer_in : ConfigSays → ℕ → Peer
peer_in config place = unwrap_or (peer_at config (slice_get config.members place)) client

-- The arrival of a frame at its receiver, from its sender. Without a frame the member with this index receives nothing.
abbrev pub arrives : ConfigSays → ℕ → Option SentFrame → Happening
arrives config place None = Turns place arrivals.Quiet []
arrives config place (Some frame) =
    Turns frame.to (arrivals.Datagram (peer_in config frame.from)) frame.bytes

-- A client sends the member with this index a request about a ticket.
abbrev pub asks : ConfigSays → ℕ → Draw → Cmd → ℕ → Happening
asks config place draw cmd event =
    Turns place (arrivals.Datagram client)
    (sealed None (request cmd (ticket_name config (ticket_of draw (length config.tickets))) event))

abbrev pub happens : ConfigSays → List WorldEntry → ℕ → Draw → ℕ → Kind → Happening
happens config before event draw place kinds.Frame =
    arrives config place (chosen draw.first (kept_frames config before))
happens config before event draw place kinds.Quiet = Turns place arrivals.Quiet []
happens config before event draw place kinds.Grant = asks config place draw CGnt event
happens config before event draw place kinds.Revoke = asks config place draw CRvk event
happens config before event draw place kinds.Restart = Restarts place

-- The event with this number.
abbrev pub happening : ConfigSays → List WorldEntry → ℕ → Draw → Happening
happening config before event draw =
    happens config before event draw (member_of draw (length config.members)) (kind_of draw)
