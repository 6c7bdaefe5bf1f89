-- The wait for the answer to a request, pair by pair.
use Rattle.std.specs.Prelude.{ℕ, Bool, true, false, not, ◌+◌, ◌&&◌, ◌==◌, nat_le, nat_lt, Option, Some, None, if◌then◌else◌}
use Rattle.booth_wire.specs.declared.codes.results.TheConstants.{ASYN}
use Rattle.booth_wire.specs.PlainMessage.{PlainMessage}
use Rattle.booth_talk.specs.Asking.{number_of}
use Rattle.booth_talk.specs.Replies.{reply_of}
use Rattle.booth_talk.specs.declared.wait.TheConstants.{MOST_PAIRS, PATIENCE}
use Rattle.booth_move.specs.declared.stage.Request.{Request}
use Rattle.booth_move.specs.declared.waiting.TheConstants.{PAUSE}
use Rattle.booth_move.specs.declared.waiting.Waits.{Waits}
use Rattle.booth_move.specs.declared.waiting.Waits.TheVariants.{On, Over, Came}

-- ---- requests

-- A request with this number that was just sent.
abbrev pub sent : ℕ → ℕ → Request
sent number reading = record { number = number; start = reading; pairs = 0; begun = false }

-- A new request that starts at this reading. Its number is the number for this reading.
abbrev pub request_at : ℕ → Request
request_at reading = sent (number_of reading) reading

-- ---- waits

-- The request after one more pair without an answer, or none if the pair was the last.
abbrev pub one_more : Request → Option Request
one_more last = if last.pairs + 1 == MOST_PAIRS then None else Some (record last { pairs = last.pairs + 1 })

abbrev pub waits_on : Option Request → Waits
waits_on None = Over
waits_on (Some last) = On last

-- The wait after a reply that the request was begun. After the first reply of this kind there are further pairs,
-- without a limit of time. A later one counts as a pair without an answer.
abbrev pub passed_over : Request → Waits
passed_over last = if last.begun then waits_on (one_more last) else On (record last { pairs = 0; begun = true })

-- The reading is past the wait for the first answer.
abbrev pub is_late : Request → ℕ → Bool
is_late last reading = not last.begun && nat_lt (last.start + PATIENCE) reading

-- The meaning of a pair for the wait. A reply counts even if the pair's reading is late. A move that waits for the
-- outcome ignores the reply that the request was begun.
abbrev pub judged : Bool → Request → ℕ → Option PlainMessage → Waits
judged wait last reading None = if is_late last reading then Over else waits_on (one_more last)
judged wait last reading (Some m) =
    if wait && m.head.result == ASYN then passed_over last else Came (reply_of m)

-- ---- pauses

-- The reading is late enough to repeat the grant.
abbrev pub is_rested : Request → ℕ → Bool
is_rested last reading = nat_le (last.start + PAUSE) reading
