-- Which senders a socket accepts datagrams from, and what that makes of a host.
use Rattle.std.specs.Prelude.{◌≡◌, [], Option, None, Some, option_map}
use Rattle.booth_base.specs.declared.address.Peer.{Peer}
use Rattle.booth_host.specs.declared.host.Arrival.{Arrival}
use Rattle.booth_host.specs.declared.host.Arrival.TheVariants.{Datagram}
use Rattle.booth_host.specs.declared.host.Place.{Place}
use Rattle.booth_real.specs.declared.socket.Socket.{Socket}
use Rattle.booth_real.specs.declared.socket.Takes.{Takes}
use Rattle.booth_real.specs.declared.socket.Takes.TheVariants.{All, Asked}

-- a client's place: it has no fixed address, so nobody can know it in advance
pub record IsToAsk (place : Place) : Type 0 where
  pub anywhere : place.local ≡ None
  pub any_port : place.port ≡ 0
  pub no_records : place.records ≡ []

-- the socket accepts what this peer sends; a socket that accepts one sender alone accepts that sender
abbrev pub Hears : Takes → Peer → Type 0
Hears All from = Unit {0}
Hears (Asked asked) from = asked ≡ Some from

-- the same for a socket that may not be open, which then accepts nothing
abbrev pub HeardBy : Option Takes → Peer → Type 0
HeardBy None from = ⊥
HeardBy (Some takes) from = Hears takes from

-- if a datagram arrives, it is one that the socket accepts
abbrev pub BringsTo : Option Takes → Arrival → Type 0
BringsTo hearing (Datagram from) = HeardBy hearing from
BringsTo hearing arrival = Unit {0}

-- what the socket accepts after something was sent to this peer
abbrev pub turned : Takes → Peer → Takes
turned All to = All
turned (Asked asked) to = Asked (Some to)

-- ---- a host

-- which senders a host accepts datagrams from, once a place is open
abbrev pub hearing : Option Socket → Option Takes
hearing open_socket = option_map (λ (socket : Socket). socket.takes) open_socket

-- which senders are accepted at a place: at a client's place nobody so far, at any other place everybody
pub record HearsAt (place : Place) (takes : Takes) : Type 0 where
  pub asks : IsToAsk place → takes ≡ Asked None
  pub others : (IsToAsk place → ⊥) → takes ≡ All

-- the place is open, and accepts what such a place accepts
abbrev pub IsOpenAt : Place → Option Takes → Type 0
IsOpenAt place None = ⊥
IsOpenAt place (Some takes) = HearsAt place takes

-- what a host accepts after it sent something to this peer
abbrev pub turned_to : Peer → Option Takes → Option Takes
turned_to to before = option_map (λ takes. turned takes to) before
