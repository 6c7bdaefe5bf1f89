-- Datagrams that were taken from the system and not returned yet.
use Rattle.std.specs.Prelude.{◌≡◌, ◌≤◌, ◌<◌, ◌+◌, ℕ, max, nat_eq, if◌then◌else◌, List, [], ◌∷◌, length, slice_index, Option, Some, None, drop, take}
use Rattle.booth_base.specs.declared.address.Peer.{Peer}
use Rattle.booth_host.specs.declared.datagram.TheConstants.{DATAGRAM_BYTES}
use Rattle.booth_real.specs.declared.backlog.Held.{Held}
use Rattle.booth_real.specs.declared.backlog.TheConstants.{BACKLOG_BYTES, BACKLOG_DATAGRAMS, LEAST_ROOM}

-- datagrams whose bytes are stored one behind the other: each has its sender and its number of bytes
abbrev pub cut_by : List Held → List ℕ → List (Peer × List ℕ)
cut_by [] bytes = []
cut_by (held ∷ rest) bytes = (held.from, take held.length bytes) ∷ cut_by rest (drop held.length bytes)

-- how many bytes they have
abbrev pub total : List Held → ℕ
total [] = 0
total (held ∷ rest) = held.length + total rest

-- what waits, in the order of arrival, after this number of bytes was returned
abbrev pub waits : List Held → ℕ → List ℕ → List (Peer × List ℕ)
waits held given bytes = cut_by held (drop given bytes)

-- there is room for one more datagram of any length behind these bytes and datagrams
pub record HasRoom (bytes datagrams : ℕ) : Type 0 where
  pub within : bytes + DATAGRAM_BYTES ≤ BACKLOG_BYTES
  pub place : datagrams < BACKLOG_DATAGRAMS

-- how much room a datagram with this many bytes takes up
abbrev pub room_of : ℕ → ℕ
room_of bytes = max bytes LEAST_ROOM

-- how much room a datagram takes up among those of the socket at this place
abbrev pub part_of : ℕ → Held → ℕ
part_of place held = if nat_eq held.place place then room_of held.length else 0

-- how much room the datagrams of the socket at this place take up
abbrev pub filled_by : ℕ → List Held → ℕ
filled_by place [] = 0
filled_by place (held ∷ rest) = part_of place held + filled_by place rest

-- each count is how much room the datagrams of its socket take up
abbrev pub AreCounted : List ℕ → List Held → Type 0
AreCounted filled held = (place : ℕ) → place < length filled → slice_index filled place ≡ filled_by place held

-- the datagrams of no socket take up more than this share and one datagram
abbrev pub AreWithin : ℕ → List Held → Type 0
AreWithin share held = (place : ℕ) → filled_by place held < share + DATAGRAM_BYTES

-- if one waits, the first is returned and the others keep waiting
abbrev pub GivesFirst : List (Peer × List ℕ) → Option Peer → List ℕ → List (Peer × List ℕ) → Type 0
GivesFirst [] None bytes others = others ≡ []
GivesFirst (first ∷ rest) (Some from) bytes others = (first ≡ (from, bytes)) × (others ≡ rest)
GivesFirst waiting given bytes others = ⊥
