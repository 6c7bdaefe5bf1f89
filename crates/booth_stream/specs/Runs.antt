-- Runs of a host over streams: the bytes that were polled from a link, and the frames that were returned.
use Rattle.std.specs.Prelude.{◌≡◌, ◌++◌, ◌==◌, ℕ, if◌then◌else◌, List, [], ◌∷◌, Option, Some, None, Result, Ok, Err, replicate, slice_get, slice_set, take}
use Rattle.std.specs.List.{flat_map}
use Rattle.booth_base.specs.declared.address.Peer.{Peer}
use Rattle.booth_host.specs.declared.entry.Entry.{Entry}
use Rattle.booth_host.specs.declared.host.Arrival.{Arrival}
use Rattle.booth_host.specs.declared.host.Arrival.TheVariants.{Datagram}
use Rattle.booth_host.specs.declared.host.Failed.{Failed}
use Rattle.booth_stream.specs.Cut.{IsFrame, cut, joined}
use Rattle.booth_stream.specs.Places.{OpenLink, after_poll, unbroken, without}
use Rattle.booth_stream.specs.Steps.{AnswersElse, IsNext, IsSend, Writes}
use Rattle.booth_stream.specs.declared.link_call.LinkCall.{LinkCall}
use Rattle.booth_stream.specs.declared.link_call.LinkCall.TheVariants.{Close, Open, Poll, Write}
use Rattle.booth_stream.specs.declared.links.LinkEvent.{LinkEvent}
use Rattle.booth_stream.specs.declared.links.LinkEvent.TheVariants.{Opened, Bytes, Ended, Quiet}
use Rattle.booth_stream.specs.declared.stream_host.Wrote.TheVariants as wrotes

-- ---- events at the places

pub data Happening : Type 0 where
  -- a poll with this answer and these bytes
  Polled : Result LinkEvent Failed → List ℕ → Happening
  -- the host returned a frame of the link with this number
  Given : ℕ → List ℕ → Happening
  -- the host closed the broken links
  Pruned : Happening
  -- the host closed the link with this number
  Left : ℕ → Happening

-- the first frame of the link with this number
pub record IsGiven (old : List (Option OpenLink)) (number : ℕ) (bytes : List ℕ) (new : List (Option OpenLink))
    : Type 0 where
  pub place : ℕ
  pub link : OpenLink
  pub left : List ℕ
  pub there : slice_get old place ≡ Some (Some link)
  pub named : number ≡ link.number
  pub frame : IsFrame bytes
  pub begins : link.rest ≡ bytes ++ left
  pub now : new ≡ slice_set old place (Some (record link { rest = left }))

abbrev pub Happens : List (Option OpenLink) → Happening → List (Option OpenLink) → Type 0
Happens old (Polled answer bytes) new = new ≡ (after_poll answer bytes old).places
Happens old (Given number bytes) new = IsGiven old number bytes new
Happens old Pruned new = new ≡ unbroken old
Happens old (Left number) new = new ≡ without number old

-- from the first places to the second, with the latest event first
abbrev pub Leads : List (Option OpenLink) → List Happening → List (Option OpenLink) → Type 0
Leads old [] new = new ≡ old
Leads old (happening ∷ earlier) new = (mid : List (Option OpenLink)) × Leads old earlier mid × Happens mid happening new

-- from a new host
abbrev pub IsRun : List Happening → List (Option OpenLink) → Type 0
IsRun run places = Leads (replicate 16 None) run places

-- ---- one number, since it was last opened

-- the bytes that were polled from it
abbrev pub polled_of : ℕ → List Happening → List ℕ
polled_of n [] = []
polled_of n (Polled (Ok (Opened m peer)) bytes ∷ earlier) = if m == n then [] else polled_of n earlier
polled_of n (Polled (Ok (Bytes m)) bytes ∷ earlier) =
    if m == n then polled_of n earlier ++ bytes else polled_of n earlier
polled_of n (Polled (Ok (Ended m)) bytes ∷ earlier) = polled_of n earlier
polled_of n (Polled (Ok Quiet) bytes ∷ earlier) = polled_of n earlier
polled_of n (Polled (Err fault) bytes ∷ earlier) = polled_of n earlier
polled_of n (Given m bytes ∷ earlier) = polled_of n earlier
polled_of n (Pruned ∷ earlier) = polled_of n earlier
polled_of n (Left m ∷ earlier) = polled_of n earlier

-- the frames of it that were returned
abbrev pub given_of : ℕ → List Happening → List (List ℕ)
given_of n [] = []
given_of n (Polled (Ok (Opened m peer)) bytes ∷ earlier) = if m == n then [] else given_of n earlier
given_of n (Polled (Ok (Bytes m)) bytes ∷ earlier) = given_of n earlier
given_of n (Polled (Ok (Ended m)) bytes ∷ earlier) = given_of n earlier
given_of n (Polled (Ok Quiet) bytes ∷ earlier) = given_of n earlier
given_of n (Polled (Err fault) bytes ∷ earlier) = given_of n earlier
given_of n (Given m bytes ∷ earlier) = if m == n then given_of n earlier ++ bytes ∷ [] else given_of n earlier
given_of n (Pruned ∷ earlier) = given_of n earlier
given_of n (Left m ∷ earlier) = given_of n earlier

-- Take the frames that were returned from an open link, and then the frames in the bytes that the link still holds.
-- Together they are the frames of the cut of all bytes that were polled from the link.
abbrev pub GivenIsPrefix : Type 0
GivenIsPrefix =
    (run : List Happening) (places : List (Option OpenLink)) (place : ℕ) (link : OpenLink) → IsRun run places
    → slice_get places place ≡ Some (Some link)
    → (polled_of link.number run ≡ joined (given_of link.number run) ++ link.rest)
    × ((cut (polled_of link.number run)).frames ≡ given_of link.number run ++ (cut link.rest).frames)

-- ---- the calls of a host, as events

abbrev pub polls_in : List LinkCall → List (Result LinkEvent Failed × List ℕ)
polls_in [] = []
polls_in (Poll answer bytes ∷ calls) = (answer, bytes) ∷ polls_in calls
polls_in (Open local port answer ∷ calls) = polls_in calls
polls_in (Write link bytes answer ∷ calls) = polls_in calls
polls_in (Close link ∷ calls) = polls_in calls

abbrev pub polled_in : List Happening → List (Result LinkEvent Failed × List ℕ)
polled_in [] = []
polled_in (Polled answer bytes ∷ earlier) = (answer, bytes) ∷ polled_in earlier
polled_in (Given number bytes ∷ earlier) = polled_in earlier
polled_in (Pruned ∷ earlier) = polled_in earlier
polled_in (Left number ∷ earlier) = polled_in earlier

abbrev pub frames_in : List Happening → List (List ℕ)
frames_in [] = []
frames_in (Polled answer bytes ∷ earlier) = frames_in earlier
frames_in (Given number bytes ∷ earlier) = bytes ∷ frames_in earlier
frames_in (Pruned ∷ earlier) = frames_in earlier
frames_in (Left number ∷ earlier) = frames_in earlier

-- the events of one call: at most one poll, and the frames that it returned
pub record AreOf (run : List Happening) (old new : List (Option OpenLink)) (calls : List LinkCall)
    (frames : List (List ℕ)) : Type 0 where
  pub leads : Leads old run new
  pub polls : polled_in run ≡ polls_in calls
  pub gives : frames_in run ≡ frames

-- If no link has a frame, `next` returns the answer of its poll or of the host inside.
pub data FitsNext (wait : ℕ) (calls : List LinkCall) (entries : List Entry) (answer : Result Arrival Failed)
    (bytes : List ℕ) (frames : List (List ℕ)) : Type 0 where
  OfLink : (peer : Peer) → frames ≡ bytes ∷ [] → answer ≡ Ok (Datagram peer) → entries ≡ []
      → FitsNext wait calls entries answer bytes frames
  Else : (polled : Result LinkEvent Failed) (piece : List ℕ) → frames ≡ [] → polls_in calls ≡ (polled, piece) ∷ []
      → AnswersElse wait polled entries answer bytes → FitsNext wait calls entries answer bytes frames

-- Each `next` consists of such events, with the polls that it made and the frame that it returned.
abbrev pub NextHappens : Type 0
NextHappens =
    (old new : List (Option OpenLink)) (wait : ℕ) (calls : List LinkCall) (entries : List Entry)
    (answer : Result Arrival Failed) (bytes : List ℕ) → IsNext old wait calls entries answer bytes new
    → (run : List Happening) × (frames : List (List ℕ)) × AreOf run old new calls frames
    × FitsNext wait calls entries answer bytes frames

-- Each `send` consists of such events, without a poll and without a frame.
abbrev pub SendHappens : Type 0
SendHappens =
    (old new : List (Option OpenLink)) (to : Peer) (bytes : List ℕ) (calls : List LinkCall) (entries : List Entry)
    (answer : Result (Unit {0}) Failed) → IsSend old to bytes calls entries answer new
    → (run : List Happening) × AreOf run old new calls []

-- ---- sends

-- the bytes that a call wrote
abbrev pub taken_by : LinkCall → List ℕ
taken_by (Write link bytes (Ok taken)) = take taken bytes
taken_by (Write link bytes (Err fault)) = []
taken_by (Open local port answer) = []
taken_by (Poll answer bytes) = []
taken_by (Close link) = []

-- Writes that succeed have written all bytes, in order.
abbrev pub WrittenIsWhole : Type 0
WrittenIsWhole =
    (number : ℕ) (bytes : List ℕ) (calls : List LinkCall) → Writes number bytes calls wrotes.All
    → flat_map taken_by calls ≡ bytes
