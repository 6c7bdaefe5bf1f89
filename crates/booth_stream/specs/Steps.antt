-- The calls that each call of a host over streams makes to the links and to the host inside.
use Rattle.std.specs.Prelude.{◌≡◌, ◌≤◌, ◌<◌, ◌⊎◌, ◌++◌, ◌+◌, ◌-◌, ◌^◌, min, ℕ, Bool, true, false, ◌==◌, if◌then◌else◌, List, [], ◌∷◌, length, drop, Option, IsSome, Result, Ok, Err, is_err}
use Rattle.std.specs.List.{All, list_any}
use Rattle.booth_base.specs.declared.address.Peer.{Peer}
use Rattle.booth_host.specs.declared.entry.Entry.{Entry}
use Rattle.booth_host.specs.declared.entry.Entry.TheVariants.{Next, Send}
use Rattle.booth_host.specs.declared.host.Arrival.{Arrival}
use Rattle.booth_host.specs.declared.host.Arrival.TheVariants.{Datagram}
use Rattle.booth_host.specs.declared.host.Failed.{Failed}
use Rattle.booth_host.specs.declared.entry.Entry.TheVariants as entries
use Rattle.booth_host.specs.declared.host.Place.{Place}
use Rattle.booth_host.specs.Past.{grown, GrewBy}
use Rattle.booth_host.specs.Causes.{Rose, raised}
use Rattle.booth_stream.specs.Calls.{with_calls, CallsGrewBy}
use Rattle.booth_stream.specs.Places.{OpenLink, NoneWhole, Gives, Polls, closings, unbroken, without}
use Rattle.booth_stream.specs.Slots.{IsOpen, IsNotOf}
use Rattle.booth_stream.specs.declared.link_call.LinkCall.{LinkCall}
use Rattle.booth_stream.specs.declared.link_call.LinkCall.TheVariants.{Close, Open, Write}
use Rattle.booth_stream.specs.declared.links.LinkEvent.{LinkEvent}
use Rattle.booth_stream.specs.declared.stream_host.Wrote.{Wrote}
use Rattle.booth_stream.specs.declared.stream_host.Wrote.TheVariants as wrotes

-- If links and host record calls afterwards, they did so before, and the calls between have this form.
pub record BothGrew (P : List LinkCall → List Entry → Type 0) (links linked : Option (List LinkCall))
    (host hosted : Option (List Entry)) : Type 0 where
  pub grew : IsSome linked → IsSome hosted → (calls : List LinkCall) × (entries : List Entry)
      × (linked ≡ with_calls links calls) × (hosted ≡ grown host entries) × P calls entries

-- ---- faults

-- the sum of three counts, or the greatest value of the counter
abbrev pub summed : ℕ → ℕ → ℕ → ℕ
summed host links own = min (host + links + own) (2 ^ 64 - 1)

-- a write to a link that wrote nothing
abbrev pub wrote_nothing : LinkCall → Bool
wrote_nothing (Write number bytes (Ok taken)) = taken == 0
wrote_nothing call = false

-- the host's own count after these calls of its links: it counts a write that wrote nothing, and nothing else
abbrev pub own_count : ℕ → List LinkCall → ℕ
own_count before calls = if list_any wrote_nothing calls then raised before else before

-- the host's own count stays, or a send failed and it is one more
abbrev pub StaysOrCounts : ℕ → ℕ → Result (Unit {0}) Failed → Type 0
StaysOrCounts before now answer = (now ≡ before) ⊎ ((is_err answer ≡ true) × (now ≡ raised before))

-- a write that failed was counted
pub record RoseAt (wrote : Wrote) (before now : ℕ) : Type 0 where
  pub later : before ≤ now
  pub fault : wrote ≡ wrotes.Fault → Rose before now

-- ---- open

-- the second answer, if the first is no failure
abbrev pub both : Result (Unit {0}) Failed → Result (Unit {0}) Failed → Result (Unit {0}) Failed
both (Ok done) second = second
both (Err fault) second = Err fault

-- the host inside and the links are opened at the same place
pub record OpensBoth (place : Place) (answer : Result (Unit {0}) Failed) (links linked : Option (List LinkCall))
    (host hosted : Option (List Entry)) : Type 0 where
  pub first : Result (Unit {0}) Failed
  pub second : Result (Unit {0}) Failed
  pub inside : GrewBy host hosted (entries.Open place.local place.port place.records place.conf_path first ∷ [])
  pub called : CallsGrewBy links linked (Open place.local place.port second ∷ [])
  pub answers : answer ≡ both first second

-- ---- next

-- the answer of a failed poll, or else of the host inside
abbrev pub AnswersElse : ℕ → Result LinkEvent Failed → List Entry → Result Arrival Failed → List ℕ → Type 0
AnswersElse wait (Err fault) entries answer bytes = (answer ≡ Err fault) × (entries ≡ [])
AnswersElse wait (Ok event) entries answer bytes = entries ≡ Next wait answer bytes ∷ []

-- A whole frame is returned without a call. Otherwise there is one poll, and a frame that is then whole is returned.
-- Otherwise the poll or the host inside answers, and broken links are closed.
pub data IsNext (old : List (Option OpenLink)) (wait : ℕ) (calls : List LinkCall) (entries : List Entry)
    (answer : Result Arrival Failed) (bytes : List ℕ) (new : List (Option OpenLink)) : Type 0 where
  Ready : (peer : Peer) → Gives old peer bytes new → answer ≡ Ok (Datagram peer) → calls ≡ [] → entries ≡ []
      → IsNext old wait calls entries answer bytes new
  Arrived : (polled : Result LinkEvent Failed) (mid : List (Option OpenLink)) (peer : Peer) → Polls old polled calls mid
      → Gives mid peer bytes new → answer ≡ Ok (Datagram peer) → entries ≡ []
      → IsNext old wait calls entries answer bytes new
  Passed : (polled : Result LinkEvent Failed) (mid : List (Option OpenLink)) (first : List LinkCall)
      → Polls old polled first mid → NoneWhole mid → calls ≡ first ++ closings mid → new ≡ unbroken mid
      → AnswersElse wait polled entries answer bytes → IsNext old wait calls entries answer bytes new

-- ---- send

-- how the writes of a frame end
abbrev pub Stops : Result ℕ Failed → Wrote → Type 0
Stops (Ok taken) wrote = (taken ≡ 0) × (wrote ≡ wrotes.Nothing)
Stops (Err fault) wrote = wrote ≡ wrotes.Fault

-- Each write passes the remaining bytes, until all are written, or a write fails or writes nothing.
abbrev pub Writes : ℕ → List ℕ → List LinkCall → Wrote → Type 0
Writes number bytes [] wrote = (bytes ≡ []) × (wrote ≡ wrotes.All)
Writes number bytes (call ∷ calls) wrote = (0 < length bytes)
    × (((taken : ℕ) × (call ≡ Write number bytes (Ok taken)) × (0 < taken) × (taken ≤ length bytes)
    × Writes number (drop taken bytes) calls wrote)
    ⊎ ((answer : Result ℕ Failed) × (call ≡ Write number bytes answer) × (calls ≡ []) × Stops answer wrote))

-- the result of a send to an open link: the link is closed if the frame was not written whole
abbrev pub EndsWrites : List (Option OpenLink) → ℕ → Wrote → List LinkCall → List LinkCall → Result (Unit {0}) Failed
    → List (Option OpenLink) → Type 0
EndsWrites old number wrotes.All writes calls answer new = (answer ≡ Ok tt) × (calls ≡ writes) × (new ≡ old)
EndsWrites old number wrotes.Nothing writes calls answer new =
    (is_err answer ≡ true) × (calls ≡ writes ++ Close number ∷ []) × (new ≡ without number old)
EndsWrites old number wrotes.Fault writes calls answer new =
    (is_err answer ≡ true) × (calls ≡ writes ++ Close number ∷ []) × (new ≡ without number old)

-- how the host's own count ends after the writes of a frame
abbrev pub own_after : Wrote → ℕ → ℕ
own_after wrotes.All before = before
own_after wrotes.Nothing before = raised before
own_after wrotes.Fault before = before

-- A send to a peer with an open link writes to that link; otherwise the host inside sends.
pub data IsSend (old : List (Option OpenLink)) (to : Peer) (bytes : List ℕ) (calls : List LinkCall)
    (entries : List Entry) (answer : Result (Unit {0}) Failed) (new : List (Option OpenLink)) : Type 0 where
  Linked : (number : ℕ) (wrote : Wrote) (writes : List LinkCall) → IsOpen old to number
      → Writes number bytes writes wrote → EndsWrites old number wrote writes calls answer new → entries ≡ []
      → IsSend old to bytes calls entries answer new
  SentOn : All (IsNotOf to) old → calls ≡ [] → entries ≡ Send to bytes answer ∷ [] → new ≡ old
      → IsSend old to bytes calls entries answer new
