-- The wait for a reply, as a sequence of pairs of one arrival and one reading.
use Rattle.std.specs.Prelude.{◌≡◌, ◌<◌, ◌≤◌, ◌+◌, ◌++◌, ◌⊎◌, ◌==◌, ℕ, Bool, List, [], ◌∷◌, length}
use Rattle.std.specs.Prelude.{Option, Some, None, Result, Ok, if◌then◌else◌}
use Rattle.std.specs.List.{All}
use Rattle.booth_wire.specs.declared.codes.results.TheConstants.{ASYN}
use Rattle.booth_wire.specs.PlainMessage.{PlainMessage}
use Rattle.booth_host.specs.declared.host.Arrival.{Arrival}
use Rattle.booth_host.specs.declared.host.Arrival.TheVariants.{Datagram}
use Rattle.booth_host.specs.declared.host.Failed.{Failed}
use Rattle.booth_host.specs.declared.entry.Entry.{Entry}
use Rattle.booth_host.specs.declared.entry.Entry.TheVariants.{Next, Now}
use Rattle.booth_talk.specs.declared.order.Asking.{Asking}
use Rattle.booth_talk.specs.declared.reply.Reply.{Reply}
use Rattle.booth_talk.specs.declared.wait.TheConstants.{MOST_PAIRS, PATIENCE}
use Rattle.booth_talk.specs.declared.wait.Heard.{Heard}
use Rattle.booth_talk.specs.declared.wait.Heard.TheVariants as heard
use Rattle.booth_talk.specs.declared.wait.Waited.{Waited}
use Rattle.booth_talk.specs.declared.wait.Waited.TheVariants.{Came, Over}
use Rattle.booth_talk.specs.Replies.{message_in, reply_in}

-- ---- pairs

-- One arrival, with the datagram's bytes after it, and one reading.
pub record Pair : Type 0 where
  pub answer : Result Arrival Failed
  pub bytes : List ℕ
  pub reading : ℕ

abbrev pub calls_of : Pair → List Entry
calls_of p = Next 100 p.answer p.bytes ∷ Now p.reading ∷ []

unfoldable pub all_calls : List Pair → List Entry
all_calls [] = []
all_calls (p ∷ ps) = calls_of p ++ all_calls ps

-- There are this many pairs, and P holds for each of them.
pub record IsRow (P : Pair → Type 0) (count : ℕ) (entries : List Entry) : Type 0 where
  pub pairs : List Pair
  pub number : length pairs ≡ count
  pub whole : entries ≡ all_calls pairs
  pub each : All P pairs

-- There are fewer pairs than the limit, for each of which P holds, and then a last pair, for which Q holds.
pub record EndsBy (P Q : Pair → Type 0) (limit : ℕ) (entries : List Entry) : Type 0 where
  pub count : ℕ
  pub below : count < limit
  pub early : List Entry
  pub row : IsRow P count early
  pub last : Pair
  pub whole : entries ≡ early ++ calls_of last
  pub holds : Q last

-- ---- the content of a pair

-- The reply in a datagram's bytes. Any other arrival has none.
abbrev pub brought : Asking → ℕ → Result Arrival Failed → List ℕ → Option Reply
brought asking start (Ok (Datagram peer)) bytes = reply_in asking start bytes
brought asking start answer bytes = None

-- The authentic message that a datagram's bytes spell.
abbrev pub message_brought : Asking → ℕ → Result Arrival Failed → List ℕ → Option PlainMessage
message_brought asking start (Ok (Datagram peer)) bytes = message_in asking start bytes
message_brought asking start answer bytes = None

abbrev pub message_at : Asking → ℕ → Pair → Option PlainMessage
message_at asking start p = message_brought asking start p.answer p.bytes

abbrev pub reply_at : Asking → ℕ → Pair → Option Reply
reply_at asking start p = brought asking start p.answer p.bytes

-- The pair has no reply, and its reading is not late.
pub record IsSilent (asking : Asking) (start : ℕ) (p : Pair) : Type 0 where
  pub none : reply_at asking start p ≡ None
  pub early : p.reading ≤ start + PATIENCE

-- The pair has no reply, and its reading is late.
pub record IsLate (asking : Asking) (start : ℕ) (p : Pair) : Type 0 where
  pub none : reply_at asking start p ≡ None
  pub late : start + PATIENCE < p.reading

-- The pair has this reply, with this reading and these bytes. The reading may be late.
pub record Brings (asking : Asking) (start : ℕ) (reply : Reply) (reading : ℕ) (bytes : List ℕ)
    (p : Pair) : Type 0 where
  pub is : reply_at asking start p ≡ Some reply
  pub at : p.reading ≡ reading
  pub with : p.bytes ≡ bytes

-- The wait for the first reply. It ends at the first late reading before a reply, or with the last pair.
abbrev pub IsFirstWait : Asking → ℕ → Waited → List ℕ → List Entry → Type 0
IsFirstWait asking start (Came reply reading) bytes entries =
    EndsBy (IsSilent asking start) (Brings asking start reply reading bytes) MOST_PAIRS entries
IsFirstWait asking start Over bytes entries =
    EndsBy (IsSilent asking start) (IsLate asking start) MOST_PAIRS entries
    ⊎ IsRow (IsSilent asking start) MOST_PAIRS entries

-- ---- outcomes of requests that were begun

-- The reply states that the request was begun, and that the outcome will follow.
abbrev pub is_begun : Reply → Bool
is_begun reply = reply.result == ASYN

-- The reply, if it has an outcome.
abbrev pub settled : Option Reply → Option Reply
settled None = None
settled (Some reply) = if is_begun reply then None else Some reply

abbrev pub outcome_at : Asking → ℕ → Pair → Option Reply
outcome_at asking start p = settled (reply_at asking start p)

-- The pair has no outcome.
pub record IsUnsettled (asking : Asking) (start : ℕ) (p : Pair) : Type 0 where
  pub none : outcome_at asking start p ≡ None

-- The pair has this outcome, with this reading and these bytes.
pub record BringsOutcome (asking : Asking) (start : ℕ) (reply : Reply) (reading : ℕ) (bytes : List ℕ)
    (p : Pair) : Type 0 where
  pub is : outcome_at asking start p ≡ Some reply
  pub at : p.reading ≡ reading
  pub with : p.bytes ≡ bytes

-- The wait for the outcome, without a limit of time.
abbrev pub IsFinalWait : Asking → ℕ → Waited → List ℕ → List Entry → Type 0
IsFinalWait asking start (Came reply reading) bytes entries =
    EndsBy (IsUnsettled asking start) (BringsOutcome asking start reply reading bytes) MOST_PAIRS entries
IsFinalWait asking start Over bytes entries = IsRow (IsUnsettled asking start) MOST_PAIRS entries

-- ---- in the code

-- A pair has this meaning for a client that waits for the first reply.
abbrev pub IsHeard : Asking → ℕ → Pair → Heard → Type 0
IsHeard asking start p (heard.Answer reply) = reply_at asking start p ≡ Some reply
IsHeard asking start p heard.Late = IsLate asking start p
IsHeard asking start p heard.Silent = IsSilent asking start p
