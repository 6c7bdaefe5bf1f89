-- The open links of a host over streams, and how they change.
use Rattle.std.specs.Prelude.{◌≡◌, ◌++◌, ◌==◌, ◌&&◌, ◌||◌, ℕ, nat_le, nat_lt, Bool, false, true, if◌then◌else◌, List, [], ◌∷◌, length, map, position, slice_get, slice_set, Option, None, Some, Result, Ok, Err}
use Rattle.std.specs.List.{All, flat_map, list_any}
use Rattle.booth_base.specs.declared.address.Peer.{Peer}
use Rattle.booth_host.specs.declared.host.Failed.{Failed}
use Rattle.booth_wire.specs.declared.frame.TheConstants.{FRAME_BYTES}
use Rattle.booth_stream.specs.Cut.{IsFrame, IsTail, length_said}
use Rattle.booth_stream.specs.declared.link_call.LinkCall.{LinkCall}
use Rattle.booth_stream.specs.declared.link_call.LinkCall.TheVariants.{Close, Poll}
use Rattle.booth_stream.specs.declared.links.LinkEvent.{LinkEvent}
use Rattle.booth_stream.specs.declared.links.LinkEvent.TheVariants.{Opened, Bytes, Ended, Quiet}

-- a link: its number, its peer, and the bytes that arrived since it was opened and were not passed on
pub record OpenLink : Type 0 where
  pub number : ℕ
  pub peer : Peer
  pub rest : List ℕ

-- A host has sixteen places, each with an open link or none.

-- ---- frames

-- this place has no whole frame
abbrev pub NoFrame : Option OpenLink → Type 0
NoFrame None = Unit {0}
NoFrame (Some link) = IsTail link.rest

abbrev pub NoneWhole : List (Option OpenLink) → Type 0
NoneWhole places = All NoFrame places

-- the first frame of a link is returned, with its peer
pub record GivesFrame (old : Option OpenLink) (peer : Peer) (bytes : List ℕ) (new : Option OpenLink) : Type 0 where
  pub link : OpenLink
  pub left : List ℕ
  pub was : old ≡ Some link
  pub from : peer ≡ link.peer
  pub frame : IsFrame bytes
  pub begins : link.rest ≡ bytes ++ left
  pub now : new ≡ Some (record link { rest = left })

-- the first frame of one of the links
pub record Gives (old : List (Option OpenLink)) (peer : Peer) (bytes : List ℕ) (new : List (Option OpenLink))
    : Type 0 where
  pub place : ℕ
  pub before : Option OpenLink
  pub after : Option OpenLink
  pub there : slice_get old place ≡ Some before
  pub gives : GivesFrame before peer bytes after
  pub now : new ≡ slice_set old place after

-- ---- broken links

abbrev pub is_broken : List ℕ → Bool
is_broken bytes = nat_le 28 (length bytes) && (nat_lt (length_said bytes) 48 || nat_lt FRAME_BYTES (length_said bytes))

abbrev pub unless_broken : Option OpenLink → Option OpenLink
unless_broken None = None
unless_broken (Some link) = if is_broken link.rest then None else Some link

abbrev pub closing : Option OpenLink → List LinkCall
closing None = []
closing (Some link) = if is_broken link.rest then Close link.number ∷ [] else []

-- the places without these links, and the calls that close them
abbrev pub unbroken : List (Option OpenLink) → List (Option OpenLink)
unbroken places = map unless_broken places

abbrev pub closings : List (Option OpenLink) → List LinkCall
closings places = flat_map closing places

-- ---- events

abbrev pub has_number : ℕ → Option OpenLink → Bool
has_number number None = false
has_number number (Some link) = link.number == number

abbrev pub is_free : Option OpenLink → Bool
is_free None = true
is_free (Some link) = false

abbrev pub unless_number : ℕ → Option OpenLink → Option OpenLink
unless_number number place = if has_number number place then None else place

abbrev pub without : ℕ → List (Option OpenLink) → List (Option OpenLink)
without number places = map (unless_number number) places

abbrev pub with_bytes : List ℕ → Option OpenLink → Option OpenLink
with_bytes bytes None = None
with_bytes bytes (Some link) = Some (record link { rest = link.rest ++ bytes })

abbrev pub with_more : ℕ → List ℕ → Option OpenLink → Option OpenLink
with_more number bytes place = if has_number number place then with_bytes bytes place else place

abbrev pub added : ℕ → List ℕ → List (Option OpenLink) → List (Option OpenLink)
added number bytes places = map (with_more number bytes) places

-- the places afterwards, and the calls that were made
pub record After : Type 0 where
  pub places : List (Option OpenLink)
  pub calls : List LinkCall

-- a new link goes to the first free place; if there is none, it is closed
abbrev pub placed : ℕ → Peer → List (Option OpenLink) → Option ℕ → After
placed number peer places None = record { places = places; calls = Close number ∷ [] }
placed number peer places (Some place) = record {
  places = slice_set places place (Some (record { number = number; peer = peer; rest = [] }));
  calls = [];
}

-- if a link with this number is open, it restarts
abbrev pub opened : ℕ → Peer → List (Option OpenLink) → After
opened number peer places = placed number peer (without number places) (position is_free (without number places))

-- if a link with this number is open, it is closed
abbrev pub ended : ℕ → List (Option OpenLink) → After
ended number places = record {
  places = without number places;
  calls = if list_any (has_number number) places then Close number ∷ [] else [];
}

-- bytes for a number that is not open are ignored
abbrev pub after_event : LinkEvent → List ℕ → List (Option OpenLink) → After
after_event (Opened number peer) bytes places = opened number peer places
after_event (Bytes number) bytes places = record { places = added number bytes places; calls = [] }
after_event (Ended number) bytes places = ended number places
after_event Quiet bytes places = record { places = places; calls = [] }

abbrev pub after_poll : Result LinkEvent Failed → List ℕ → List (Option OpenLink) → After
after_poll (Ok event) bytes places = after_event event bytes places
after_poll (Err fault) bytes places = record { places = places; calls = [] }

-- One poll, when no link has a whole frame: broken links are closed first, and then the event is handled.
pub record Polls (old : List (Option OpenLink)) (polled : Result LinkEvent Failed) (calls : List LinkCall)
    (new : List (Option OpenLink)) : Type 0 where
  pub bytes : List ℕ
  pub none : NoneWhole old
  pub does : calls ≡ closings old ++ Poll polled bytes ∷ (after_poll polled bytes (unbroken old)).calls
  pub now : new ≡ (after_poll polled bytes (unbroken old)).places
