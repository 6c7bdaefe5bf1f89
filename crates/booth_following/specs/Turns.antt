-- A following over a host: the calls of a turn, and of all turns up to an end.
use Rattle.std.specs.Prelude.{◌≡◌, ◌≢◌, ◌+◌, ◌/◌, ◌++◌, ◌||◌, ℕ, Bool, true, false, nat_le, nat_lt, if◌then◌else◌, List, [], ◌∷◌, length, Option, Some, None, Result, Ok, Err}
use Rattle.booth_keys.specs.declared.ring.Ring.{Ring}
use Rattle.booth_host.specs.declared.host.Arrival.{Arrival}
use Rattle.booth_host.specs.declared.host.Failed.{Failed}
use Rattle.booth_host.specs.declared.entry.Entry.{Entry}
use Rattle.booth_host.specs.declared.entry.Entry.TheVariants.{Next, Now, Send, Start}
use Rattle.booth_follow_rule.specs.declared.news.News.{News}
use Rattle.booth_follow_rule.specs.declared.news.News.TheVariants as news
use Rattle.booth_follow_rule.specs.declared.state.FollowDeed.{FollowDeed}
use Rattle.booth_follow_rule.specs.declared.state.FollowDeed.TheVariants as deeds
use Rattle.booth_follow_rule.specs.Rule.{Moment, follow_step, opening, state_after}
use Rattle.booth_following.specs.declared.following.Following.{Following}
use Rattle.booth_following.specs.declared.following.Seat.{Seat}
use Rattle.booth_following.specs.declared.turns.TheConstants.{MOST_TURNS}
use Rattle.booth_following.specs.declared.turns.FollowEnd.{FollowEnd}
use Rattle.booth_following.specs.declared.turns.FollowEnd.TheVariants.{Left, Spent, Unheard}
use Rattle.booth_following.specs.declared.turns.Awaited.{Awaited}
use Rattle.booth_following.specs.declared.turns.Awaited.TheVariants.{Begun, Told}
use Rattle.booth_following.specs.declared.turns.Made.{Made}
use Rattle.booth_following.specs.declared.turns.Ask.{Ask}
use Rattle.booth_following.specs.declared.turns.Ask.TheVariants.{Nothing, Ticket, TicketAndList}
use Rattle.booth_following.specs.declared.turns.Sent.{Sent}
use Rattle.booth_following.specs.declared.standing.Standing.{Standing}
use Rattle.booth_following.specs.Following.{under}
use Rattle.booth_following.specs.Asking.{list_bytes, request_bytes}
use Rattle.booth_following.specs.Hearing.{IsNews, failed_left}
use Rattle.booth_following.specs.Programs.{program_for, termed}
use Rattle.booth_following.specs.Restarts.{is_outdated, learnt, started_after}
use Rattle.booth_following.specs.Standing.{standing_at}
use Rattle.booth_following.specs.Waits.{running_after, wait_of}

-- the seat at which a following begins after an earlier one left this end
abbrev pub first_seat : Following → Option ℕ → Seat
first_seat f left =
    record {
      follower = record { margins = f.margins; state = opening left };
      asked = None;
      told = false;
      term = 0;
      started = 0;
      failed = None;
      running = false;
      reading = 0;
    }

-- The keys of a turn, an arrival and a reading; the ticket's state, if the arrival is an answer about it; what the
-- arrival says, and what the rule learns of that; the result of the start of a run, and the results of the requests.
pub record Turn : Type 0 where
  pub ring : Option Ring
  pub answer : Result Arrival Failed
  pub bytes : List ℕ
  pub reading : ℕ
  pub standing : Option Standing
  pub said : News
  pub heard : News
  pub started : Result (Unit {0}) Failed
  pub sent : Sent

-- ---- what is done

abbrev pub moment_of : Turn → Moment
moment_of t = record { reading = t.reading; heard = t.heard }

abbrev pub deed_of : Seat → Turn → FollowDeed
deed_of seat t = (follow_step seat.follower.margins seat.follower.state (moment_of t)).deed

-- the term of this site's lease after the ticket's state was learnt
abbrev pub term_heard : Option Standing → ℕ → ℕ
term_heard (Some standing) term = standing.term
term_heard None term = term

-- the run of an action, with a term and its end in seconds
abbrev pub run_calls : Following → ℕ → FollowDeed → Result (Unit {0}) Failed → List Entry
run_calls f term (deeds.Run word number until) answer =
    Start number f.ticket (termed (program_for f.programs f.margins.kill word) term) f.to.address (until / 1000) answer
    ∷ []
run_calls f term deed answer = []

-- the run that could not be started
abbrev pub failed_after : Option ℕ → FollowDeed → Result (Unit {0}) Failed → Option ℕ
failed_after left (deeds.Run word number until) (Ok done) = None
failed_after left (deeds.Run word number until) (Err failed) = Some number
failed_after left deed answer = left

-- whether an answer about the ticket has arrived since the last request for it
abbrev pub is_told : Option Standing → Bool → Bool
is_told (Some standing) told = true
is_told None told = told

-- the ticket is requested at first, and again if a second has passed since the last request or the clock ran back
abbrev pub is_due : Option ℕ → ℕ → Bool
is_due None reading = true
is_due (Some asked) reading = nat_le (asked + 1000) reading || nat_lt reading asked

-- A list is requested too if the last request had no answer: an older daemon answers only requests for lists.
abbrev pub asks_due : Option ℕ → Bool → Ask
asks_due (Some asked) false = TicketAndList
asks_due asked told = Ticket

-- nothing is requested at the end
abbrev pub asks : FollowDeed → Option ℕ → Bool → ℕ → Ask
asks deeds.Leave asked told reading = Nothing
asks deed asked told reading = if is_due asked reading then asks_due asked told else Nothing

abbrev pub ask_calls : Following → Ask → ℕ → Sent → List Entry
ask_calls f Nothing reading sent = []
ask_calls f Ticket reading sent = Send f.to (request_bytes f reading) sent.ticket ∷ []
ask_calls f TicketAndList reading sent =
    Send f.to (request_bytes f reading) sent.ticket ∷ Send f.to (list_bytes f reading) sent.list ∷ []

abbrev pub asked_after : Ask → ℕ → Option ℕ → Option ℕ
asked_after Nothing reading asked = asked
asked_after ask reading asked = Some reading

abbrev pub told_after : Ask → Bool → Bool
told_after Nothing told = told
told_after ask told = false

-- a term is known as long as each request for the ticket is answered
abbrev pub term_after : Ask → ℕ → ℕ
term_after TicketAndList term = 0
term_after ask term = term

-- ---- a turn

-- the requests of a turn
abbrev pub ask_of : Seat → Turn → Ask
ask_of seat t = asks (deed_of seat t) seat.asked (is_told t.standing seat.told) t.reading

-- the calls of a turn: an arrival and a reading, the run of the deed, and the requests
abbrev pub turn_calls : Following → Seat → Turn → List Entry
turn_calls f seat t =
    Next (wait_of f seat) t.answer t.bytes ∷ Now t.reading
    ∷ (run_calls f (term_heard t.standing seat.term) (deed_of seat t) t.started
    ++ ask_calls (under f t.ring) (ask_of seat t) t.reading t.sent)

abbrev pub seat_after : Seat → Turn → Seat
seat_after seat t = record {
  follower = record {
    margins = seat.follower.margins;
    state = state_after seat.follower.margins seat.follower.state (moment_of t);
  };
  asked = asked_after (ask_of seat t) t.reading seat.asked;
  told = told_after (ask_of seat t) (is_told t.standing seat.told);
  term = term_after (ask_of seat t) (term_heard t.standing seat.term);
  started = started_after seat.started (term_heard t.standing seat.term) (deed_of seat t);
  failed = failed_after (failed_left seat.failed t.answer) (deed_of seat t) t.started;
  running = running_after seat.running seat.follower.state.run t.heard (deed_of seat t);
  reading = t.reading;
}

-- what its arrival says, and the ticket's state by it, with the keys of the turn; and what the rule learns
abbrev pub IsToldIn : Following → Seat → Turn → Type 0
IsToldIn f seat t =
    IsNews (under f t.ring) seat.asked seat.failed t.answer t.bytes t.said
    × (t.standing ≡ standing_at (under f t.ring) seat.asked t.answer t.bytes)
    × (t.heard ≡ learnt (is_outdated f seat (term_heard t.standing seat.term)) t.said)

-- the result of a turn: its action, its reading, and what the rule learnt
abbrev pub made_by : Seat → Turn → Made
made_by seat t = record { deed = deed_of seat t; reading = t.reading; heard = t.heard }

-- the calls of one turn with the following's own keys, and its result
pub record IsTurn (f : Following) (old new : Seat) (made : Made) (entries : List Entry) : Type 0 where
  pub t : Turn
  pub ring : t.ring ≡ f.ring
  pub told : IsToldIn f old t
  pub made_is : made ≡ made_by old t
  pub stands : new ≡ seat_after old t
  pub whole : entries ≡ turn_calls f old t

-- ---- silence

-- the time since which an answer is awaited: the reading of the last turn that received an answer, or the reading of
-- the first turn
abbrev pub awaited_after : Option Awaited → News → ℕ → Option Awaited
awaited_after awaited (news.List shown) reading = Some (Told reading)
awaited_after None heard reading = Some (Begun reading)
awaited_after (Some since) heard reading = Some since

-- this time has passed since a reading, or the clock ran back
abbrev pub is_over : ℕ → ℕ → ℕ → Bool
is_over time since reading = nat_le (since + time) reading || nat_lt reading since

-- an answer has been awaited for too long: 1.5 s after another one, or 10 s if none arrived
abbrev pub is_unheard : Option Awaited → ℕ → Bool
is_unheard None reading = false
is_unheard (Some (Told since)) reading = is_over 1500 since reading
is_unheard (Some (Begun since)) reading = is_over 10000 since reading

-- ---- turn after turn

unfoldable pub seat_from : Seat → List Turn → Seat
seat_from seat [] = seat
seat_from seat (t ∷ ts) = seat_from (seat_after seat t) ts

unfoldable pub calls_from : Following → Seat → List Turn → List Entry
calls_from f seat [] = []
calls_from f seat (t ∷ ts) = turn_calls f seat t ++ calls_from f (seat_after seat t) ts

unfoldable pub AreTurns : Following → Seat → List Turn → Type 0
AreTurns f seat [] = Unit {0}
AreTurns f seat (t ∷ ts) = IsToldIn f seat t × AreTurns f (seat_after seat t) ts

-- the actions of turns
unfoldable pub deeds_of : Seat → List Turn → List FollowDeed
deeds_of seat [] = []
deeds_of seat (t ∷ ts) = deed_of seat t ∷ deeds_of (seat_after seat t) ts

-- all turns have these keys
unfoldable pub AreUnder : Option Ring → List Turn → Type 0
AreUnder ring [] = Unit {0}
AreUnder ring (t ∷ ts) = (t.ring ≡ ring) × AreUnder ring ts

unfoldable pub awaited_from : Option Awaited → List Turn → Option Awaited
awaited_from awaited [] = awaited
awaited_from awaited (t ∷ ts) = awaited_from (awaited_after awaited t.heard t.reading) ts

-- after no turn an answer has been awaited for too long
unfoldable pub AreHeard : Option Awaited → List Turn → Type 0
AreHeard awaited [] = Unit {0}
AreHeard awaited (t ∷ ts) =
    (is_unheard (awaited_after awaited t.heard t.reading) t.reading ≡ false)
    × AreHeard (awaited_after awaited t.heard t.reading) ts

-- `count` turns with the following's own keys lead from the seat `from` to `seat`, and none of them ended in silence.
-- `awaited` is the answer that is awaited after them, if any.
pub record IsUnderway (f : Following) (from seat : Seat) (awaited : Option Awaited) (count : ℕ) (entries : List Entry)
    : Type 0 where
  pub turns : List Turn
  pub number : length turns ≡ count
  pub rings : AreUnder f.ring turns
  pub told : AreTurns f from turns
  pub heard : AreHeard None turns
  pub awaits : awaited_from None turns ≡ awaited
  pub stands : seat_from from turns ≡ seat
  pub whole : entries ≡ calls_from f from turns

-- Turns, and a last one that ends them.
pub record IsEnded (f : Following) (from to : Seat) (ends : Option Awaited → Made → Type 0) (entries : List Entry)
    : Type 0 where
  pub count : ℕ
  pub seat : Seat
  pub awaited : Option Awaited
  pub made : Made
  pub before : List Entry
  pub last : List Entry
  pub underway : IsUnderway f from seat awaited count before
  pub turn : IsTurn f seat to made last
  pub ends_so : ends awaited made
  pub whole : entries ≡ before ++ last

-- in this turn the follower leaves
abbrev pub Leaves : Option Awaited → Made → Type 0
Leaves awaited made = made.deed ≡ deeds.Leave

-- in this turn the follower does not leave, and an answer has been awaited for too long
abbrev pub IsSilent : Option Awaited → Made → Type 0
IsSilent awaited made =
    (made.deed ≢ deeds.Leave) × (is_unheard (awaited_after awaited made.heard made.reading) made.reading ≡ true)

-- All calls of a following from one seat to another, for each way in which it can end.
abbrev pub IsFollowed : Following → Seat → Seat → FollowEnd → List Entry → Type 0
IsFollowed f from to Left entries = IsEnded f from to Leaves entries
IsFollowed f from to Unheard entries = IsEnded f from to IsSilent entries
IsFollowed f from to Spent entries = (awaited : Option Awaited) × IsUnderway f from to awaited MOST_TURNS entries

-- turns of a following from one seat to the other, with whatever keys, have these calls
pub record AreTurnsTo (f : Following) (from to : Seat) (entries : List Entry) : Type 0 where
  pub turns : List Turn
  pub told : AreTurns f from turns
  pub stands : seat_from from turns ≡ to
  pub calls : entries ≡ calls_from f from turns
