-- The slots of a host over streams, one after the other.
use Rattle.std.specs.Prelude.{◌≡◌, ℕ, List, [], map, Option, None, Some, slice_get}
use Rattle.std.specs.List.{All}
use Rattle.booth_base.specs.declared.address.Peer.{Peer}
use Rattle.booth_stream.specs.Places.{OpenLink, Gives, NoneWhole, closings, unbroken}
use Rattle.booth_stream.specs.Slot.{PlainSlot, link_in, IsAtRest, IsDry}
use Rattle.booth_stream.specs.declared.link_call.LinkCall.{LinkCall}

abbrev pub links_in : List PlainSlot → List (Option OpenLink)
links_in slots = map link_in slots

-- the first frame of one of the links is returned, or nothing changes and no link has a frame
abbrev pub GivesOne : List PlainSlot → Option Peer → List ℕ → List PlainSlot → Type 0
GivesOne old None bytes new = (links_in new ≡ links_in old) × All IsDry new
GivesOne old (Some peer) bytes new = Gives (links_in old) peer bytes (links_in new)

-- The first frame of one of the links is returned without a call. If there is none, broken links are closed, and all
-- places are at rest.
abbrev pub GivesOrRests : List PlainSlot → Option Peer → List ℕ → List LinkCall → List PlainSlot → Type 0
GivesOrRests old None bytes calls new =
    NoneWhole (links_in old) × (calls ≡ closings (links_in old)) × (links_in new ≡ unbroken (links_in old))
    × All IsAtRest new
GivesOrRests old (Some peer) bytes calls new = Gives (links_in old) peer bytes (links_in new) × (calls ≡ [])

-- whether a link of this peer is open, and its number
pub record IsOpen (places : List (Option OpenLink)) (peer : Peer) (number : ℕ) : Type 0 where
  pub place : ℕ
  pub link : OpenLink
  pub there : slice_get places place ≡ Some (Some link)
  pub same : link.peer ≡ peer
  pub named : link.number ≡ number

abbrev pub IsNotOf : Peer → Option OpenLink → Type 0
IsNotOf peer None = Unit {0}
IsNotOf peer (Some link) = link.peer ≡ peer → ⊥

-- a link that is open to this peer, or none if there is no such link
abbrev pub Reaches : List (Option OpenLink) → Peer → Option ℕ → Type 0
Reaches places peer None = All (IsNotOf peer) places
Reaches places peer (Some number) = IsOpen places peer number
